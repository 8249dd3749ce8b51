-- The memory, the budget and the space are enough for any table, so what comes back is the table's refusal or its claim.
use Rattle.std.proofs.Common.{arith}
use Rattle.claim_write_call.proofs.EnoughForAny.{refused_or_written}
use Rattle.claim_write.proofs.write_any.Goals as goal

pub returns : goal.returns
returns c =
    let told = c.write_claim.ensures in
    record { told = told; ends = refused_or_written (omega arith) (omega arith) (omega arith) told }
