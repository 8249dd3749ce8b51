-- `claim_write_call::write::write_marked` meets its contract: the claim's width is compared with the space, and then the marks are cleared or the
-- claim put.
use native.Mathlib.Omega.{arith}
use Rattle.claim_write_call.proofs.WritingStages.{marks_no_room, marks_put}
use Rattle.claim_write_call.proofs.write.write_marked.Goals as goal

pub returns-then-space-needed : goal.returns-then-space-needed
returns-then-space-needed c =
    marks_no_room c.claim_width-needed.ensures c.if-space-needed.true c.clear_first.ensures

pub returns : goal.returns
returns c =
    marks_put (omega (arith, c.claim_width-needed.ensures, c.if-space-needed.false)) c.put_claim-bytes.ensures
