-- The loop's invariant: the walk is over this claim; as many positions are read as turns were made, and the others end where all do.
use mathlib.Core.Path.{◌≡◌}
use Rattle.claim_reader.proofs.ReadingLoops.{Reading}
use Rattle.claim_reader.proofs.reading.Claim.positions.Given as goal

abbrev pub invariant-loop-i : goal.invariant-loop-i
invariant-loop-i l =
    (l.walk.claim ≡ l.self)
    × Reading l.walk.claim.w l.fn.count.value l.walk.claim.src.now l.fn.count.next l.walk.at l._i l.walk.least l.walk.last
