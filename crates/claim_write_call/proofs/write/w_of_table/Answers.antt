-- `claim_write_call::write::w_of_table` meets its contract: the header of a table that is read has the table's sizes.
use Rattle.claim_write_call.proofs.WritingStages.{header_w, no_header_w}
use Rattle.claim_write_call.proofs.write.w_of_table.Goals as goal

pub returns-in-Ok : goal.returns-in-Ok
returns-in-Ok c = header_w _ c.in-Ok.ensures c.w_of.ensures

pub returns-in-Err : goal.returns-in-Err
returns-in-Err c = no_header_w _ c.in-Err.ensures
