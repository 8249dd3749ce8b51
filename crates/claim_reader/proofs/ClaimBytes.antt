-- How the bytes of a claim are put together.
use mathlib.Core.Path.{◌≡◌, refl}
use mathlib.Core.List.{List, [], ◌∷◌, ◌++◌, flat_map}
use Prim.Native.Nat.{ℕ, ◌-◌, ◌*◌, ◌≤◌}
use native.Mathlib.Omega.{arith}
use lib.ListN.{length, length-append}
use Rattle.numbers.specs.Writing.{bytes_of}
use Rattle.numbers.proofs.WritingLaws.{one_to_four_bytes}
use Rattle.claim_reader.specs.ClaimFile.{distances_from, bytes_of_all, claim_bytes}
use Rattle.claim_reader.specs.Stages.{position_bytes}

pub bytes_none : (last : ℕ) → position_bytes last [] ≡ []
unfolding position_bytes distances_from bytes_of_all flat_map
bytes_none last = refl

pub bytes_more : (last p : ℕ) (ps : List ℕ) → position_bytes last (p ∷ ps) ≡ bytes_of (p - last) ++ position_bytes p ps
unfolding position_bytes distances_from bytes_of_all flat_map
bytes_more last p ps = refl

pub bytes_claim : (ps : List ℕ) → claim_bytes ps ≡ bytes_of 1 ++ (bytes_of (length ps) ++ position_bytes 0 ps)
unfolding claim_bytes position_bytes bytes_of_all flat_map
bytes_claim ps = refl

-- each takes four bytes at most
pub bytes_most : (last : ℕ) (ps : List ℕ) → length (position_bytes last ps) ≤ 4 * length ps
bytes_most last [] = rw bytes_none (omega arith)
bytes_most last (p ∷ ps) =
    rw (bytes_more last p ps, length-append) (omega (arith, bytes_most p ps, one_to_four_bytes (p - last)))
