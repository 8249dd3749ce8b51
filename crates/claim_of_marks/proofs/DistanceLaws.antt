-- The distances that are still to come, and their bytes.
use mathlib.Core.Path.{◌≡◌, refl}
use mathlib.Core.List.{List, [], ◌∷◌, ◌++◌, flat_map}
use Prim.Native.Nat.{ℕ, ◌+◌, ◌-◌, ◌*◌, ◌≤◌}
use native.Mathlib.Omega.{arith}
use native.Mathlib.Nat.{sub-zero}
use lib.ListN.{length, length-append}
use Rattle.std.proofs.Common.{Some, None}
use Rattle.numbers.specs.Writing.{bytes_of}
use Rattle.store.specs.Marking.{NextMark}
use Rattle.claim_reader.specs.ClaimFile.{distances_from, bytes_of_all}
use Rattle.claim_reader.specs.Marks.{marked_from, positions_in}
use Rattle.claim_reader.specs.Stages.{position_bytes}
use Rattle.claim_reader.proofs.ClaimBytes.{bytes_most}
use Rattle.claim_reader.proofs.MarkedPositions.{coming, positions_most}

-- ---- what is still to come

-- all of them are those from position 0 on
pub all_to_come : (w : ℕ) (mem : List ℕ) → distances_from 0 (marked_from mem 0 (w - 0)) ≡ distances_from 0 (positions_in w mem)
unfolding positions_in
all_to_come w mem = rw (sub-zero w)

module _ {mem : List ℕ} {w from : ℕ} (last : ℕ) (before : last ≤ from) (within : from ≤ w) where
  pub none_to_come : NextMark mem from w None → distances_from last (marked_from mem from (w - from)) ≡ []
  unfolding distances_from
  none_to_come next = rw (coming mem w last from None before within next)

  pub one_to_come : {p : ℕ} → NextMark mem from w (Some p)
      → distances_from last (marked_from mem from (w - from)) ≡ (p - last) ∷ distances_from p (marked_from mem (p + 1) (w - (p + 1)))
  unfolding distances_from
  one_to_come {p} next = rw ((coming mem w last from (Some p) before within next).2)

-- ---- how many there are, and their bytes

pub distances_count : (last : ℕ) (ps : List ℕ) → length (distances_from last ps) ≡ length ps
unfolding distances_from
distances_count last [] = refl
distances_count last (p ∷ ps) = omega (arith, distances_count p ps)

pub all_bytes : (last : ℕ) (ps : List ℕ) → position_bytes last ps ≡ bytes_of_all (distances_from last ps)
unfolding position_bytes
all_bytes last ps = refl

pub no_bytes : bytes_of_all [] ≡ []
unfolding bytes_of_all flat_map
no_bytes = refl

pub more_bytes : (n : ℕ) (ns : List ℕ) → bytes_of_all (n ∷ ns) ≡ bytes_of n ++ bytes_of_all ns
unfolding bytes_of_all flat_map
more_bytes n ns = refl

-- the first of them, and the rest
pub width_more : {ns rest : List ℕ} {n : ℕ} → ns ≡ n ∷ rest → length (bytes_of_all ns) ≡ length (bytes_of n) + length (bytes_of_all rest)
width_more {ns} {rest} {n} e = rw (e, more_bytes n rest) (length-append (bytes_of n) (bytes_of_all rest))

-- no sum of them is too large
pub few : (w : ℕ) (mem : List ℕ) → let all = distances_from 0 (positions_in w mem) in (length all ≤ w) × (length (bytes_of_all all) ≤ 4 * w)
few w mem =
    let ps = positions_in w mem in
    rw (distances_count 0 ps, ← all_bytes 0 ps) (positions_most w mem, omega (arith, positions_most w mem, bytes_most 0 ps))
