-- Writing those that are to come writes all.
use mathlib.Core.Path.{◌∙◌}
use Rattle.claim_of_marks.proofs.DistanceLaws.{all_bytes}
use Rattle.claim_of_marks.proofs.WritingLoops.{write_start, write_room, write_more, write_end}
use Rattle.claim_of_marks.proofs.marked.MarkedFacts.put_positions.Goals as goal

pub loop-distance-init : goal.loop-distance-init
loop-distance-init c =
    let first = c.into_iter-distance-iterator.ensures.into_iter_gives ∙ c.new-distance-items.ensures in
    rw first (write_start (rw (← (all_bytes 0 _)) c.requires))

pub put-next-requires : goal.put-next-requires
put-next-requires c = (c.in-Some.ensures.steps.1, write_room c.loop-distance.invariant c.in-Some.ensures.steps.0)

pub loop-distance-preserved : goal.loop-distance-preserved
loop-distance-preserved c = write_more c.loop-distance.invariant c.in-Some.ensures.steps.0 c.put-next.ensures

pub returns : goal.returns
returns c = rw all_bytes (write_end c.loop-distance.invariant c.in-None.ensures.steps.0)
