-- A line's text and what stands past it, and the numbers of a witness.
use mathlib.Core.Path.{◌≡◌, refl, ap}
use mathlib.Core.List.{List, ◌∷◌, ◌++◌}
use Prim.Native.Nat.{ℕ, ◌+◌, ◌≤◌, min}
use native.Mathlib.Nat.{zero-add}
use native.Mathlib.Omega.{arith}
use lib.ListN.{length, take, drop}
use lib.Seq.{length-sets, take-add}
use Rattle.std.proofs.lemmas.List.{take_at, drop_at, take_min, take-append-le}
use Rattle.std.proofs.lemmas.List.Edits.{sets-eq}
use Rattle.words.specs.Text.{Written}

module _ {text before after : List ℕ} {r : ℕ} (w : Written text before after r) where
  room : 0 + length text ≤ length before
  room = omega (arith, w.count, w.room.0, ap length w.bytes, length-sets before 0 text)

  -- what is written at the start of a buffer is its first bytes
  pub written_text : take r after ≡ text
  written_text = rw (w.bytes, w.count, sets-eq text before 0 room) (take_at text _ _ refl)

  -- what stands past it is as it was
  pub written_rest : drop r after ≡ drop r before
  written_rest = rw (w.bytes, w.count, sets-eq text before 0 room, zero-add) (drop_at text _ _ refl)

-- the numbers of a witness: of its row, its store and four local stores, those up to the first n of the four
pub first_of_four : {row g count : ℕ} (n : ℕ) (four rest : List ℕ) → length four ≡ 4 → count ≡ 2 + min n 4
    → take count (row ∷ g ∷ four ++ rest) ≡ row ∷ g ∷ take n four
first_of_four n four rest long counted =
    let within : min n 4 ≤ length four = omega (arith, long) in
    let first : take (min n 4) four ≡ take n four = rw (← long) (take_min n four) in
    rw (counted, take-add, take-append-le (min n 4) four rest within, first)
