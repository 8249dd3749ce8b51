-- `claim_write_call::write::write_claim` meets its contract: a check that is not finished is passed on, and of a finished one the marks are written.
use Rattle.std.proofs.lemmas.Result.{err_from_is_err_and}
use Rattle.claim_write_call.proofs.WritingStages.{check_w, marks_written, passed_on}
use Rattle.claim_write_call.proofs.write.write_claim.Goals as goal

pub returns-in_err-done : goal.returns-in_err-done
returns-in_err-done c =
    let (_, is, by) = err_from_is_err_and c.from_residual.result c.from_residual.ensures.1 in
    rw (is, by) (passed_on _ c.in_err-done.ensures)

pub write_marked-requires : goal.write_marked-requires
write_marked-requires c = check_w c.in_ok-done.ensures c.w_of_table-w.ensures

pub returns : goal.returns
returns c = marks_written c.in_ok-done.ensures c.w_of_table-w.ensures c.write_marked.ensures
