-- The bytes of a written claim are within the space (`written_within`).
use Rattle.claim_write_call.proofs.WrittenLaws.{written_within}
use Rattle.claim_write.proofs.run.Goals as goal

pub slice_bounds-space-end : goal.slice_bounds-space-end
slice_bounds-space-end g c = (written_within (rw c.in-Ok.is at c.write_any-answer.ensures.told)).0
