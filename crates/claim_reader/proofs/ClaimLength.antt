-- No claim of positions below w is longer than w + 5 bytes. The version takes a byte and the count at most four. A distance takes no more bytes than
-- it is large, and the first position at most one more; the distances make up the last position, which is below w.
use mathlib.Core.List.{List, [], ◌∷◌}
use Prim.Native.Nat.{ℕ, ◌+◌, ◌-◌, ◌≤◌, ◌<◌}
use native.Mathlib.Omega.{arith}
use lib.ListN.{length, length-append}
use Rattle.numbers.proofs.WritingLaws.{one_to_four_bytes, no_more_bytes}
use Rattle.claim_reader.specs.ClaimFile.{claim_bytes, AscendingFrom, AscendingBelow}
use Rattle.claim_reader.specs.Stages.{position_bytes}
use Rattle.claim_reader.proofs.ClaimBytes.{bytes_none, bytes_more, bytes_claim}

-- the positions past `last`
further_length : (w last : ℕ) (ps : List ℕ) → last < w → AscendingFrom w (last + 1) ps → last + 1 + length (position_bytes last ps) ≤ w
further_length w last [] l a = rw bytes_none (omega arith)
further_length w last (p ∷ ps) l a =
    rw (bytes_more last p ps, length-append) (omega (arith, no_more_bytes (p - last), further_length w p ps a.1 a.2))

positions_length : (w : ℕ) (ps : List ℕ) → AscendingBelow w ps → length (position_bytes 0 ps) ≤ w
positions_length w [] a = rw bytes_none (omega arith)
positions_length w (p ∷ ps) a = rw (bytes_more 0 p ps, length-append) (omega (arith, no_more_bytes (p - 0), further_length w p ps a.1 a.2))

pub claim_length : (w : ℕ) (ps : List ℕ) → AscendingBelow w ps → length (claim_bytes ps) ≤ w + 5
claim_length w ps a =
    rw (bytes_claim ps) (simp length-append (omega (arith, no_more_bytes 1, one_to_four_bytes (length ps), positions_length w ps a)))
