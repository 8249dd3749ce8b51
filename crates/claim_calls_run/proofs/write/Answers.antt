-- The bytes of a written claim are within the space that is lent (`written_within`).
use Rattle.std.proofs.Common.{arith}
use Rattle.claim_write_call.proofs.WrittenLaws.{written_within}
use Rattle.claim_calls_run.proofs.write.Goals as goal

pub check_written-requires : goal.check_written-requires
check_written-requires g c =
    let within = written_within (rw c.in-Ok.is at c.write_claim-answer.ensures) in
    (omega arith, omega (arith, within.0))
