-- The loop's invariant: the walk is over this claim; as many positions are marked as turns were made, and marking the others marks all.
use mathlib.Core.Path.{◌≡◌}
use Rattle.claim_reader.proofs.ReadingLoops.{Marking}
use Rattle.claim_reader.proofs.reading.Claim.mark_positions.Given as goal

abbrev pub invariant-loop-i : goal.invariant-loop-i
invariant-loop-i l =
    (l.walk.claim ≡ l.self)
    × Marking l.walk.claim.w l.fn.count.value l.walk.claim.src.now l.fn.count.next l.initial.mem l.mem l.walk.at l._i l.walk.least l.walk.last
