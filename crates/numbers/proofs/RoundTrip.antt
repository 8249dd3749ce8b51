-- Reading and writing a number undo one another.
--     stands_read   where the bytes of a number stand, it is read
--     read_put      what `put_number` wrote is read back: the value, and the place past it
--     put_read      an accepted number's bytes are those that `put_number` writes for its value
-- `Stands` says byte by byte what stands in a file; `Accepted` is the same for a number, so each way is one induction.
use mathlib.Core.Path.{◌≡◌, refl, sym, ap, ◌∙◌}
use mathlib.Core.List.{List, [], ◌∷◌}
use mathlib.Core.Bool.{Bool, true, false}
use Prim.Native.Nat.{ℕ, zero, suc, ◌+◌, ◌/◌, ◌%◌, ◌^◌, ◌≤◌, ◌<◌}
use native.Mathlib.Omega.{arith}
use native.Mathlib.Numerals.{add-one}
use borrow.Author.Tests.{ltb-true, ltb-false}
use lib.ListN.{length, get_or, set, take, drop, length-set}
use lib.Seq.{sets, length-sets, get_or-set_same, get_or-set_other, drop-cons}
use lib.Dec.{ltb}
use Rattle.numbers.specs.Reading.{got, out_of, number_at}
use Rattle.numbers.specs.Writing.{groups_of, bytes_of}
use Rattle.numbers.proofs.NumberLaws.{Accepted, ended, more, accepted_groups, accepted_one, number_accepted}
use Rattle.numbers.proofs.WritingLaws.{groups_of_last, groups_of_more}

-- the bytes bs stand in s from `at` on
abbrev pub Stands : List ℕ → ℕ → List ℕ → Type 0
Stands s at [] = Unit
Stands s at (b ∷ bs) = (at < length s) × (get_or s at 0 ≡ b) × Stands s (at + 1) bs

-- ---- what was written stands there

before_sets : (vs l : List ℕ) (i j : ℕ) → j < i → get_or (sets l i vs) j 0 ≡ get_or l j 0
before_sets [] l i j h = refl
before_sets (v ∷ vs) l i j h = before_sets vs (set l i v) (suc i) j (omega arith) ∙ get_or-set_other l i j v 0 (λ e. absurd (omega arith))

pub sets_stand : (vs l : List ℕ) (i : ℕ) → i + length vs ≤ length l → Stands (sets l i vs) i vs
sets_stand [] l i h = tt
sets_stand (v ∷ vs) l i h = (
  rw length-sets (omega arith),
  before_sets vs (set l i v) (suc i) i (omega arith) ∙ get_or-set_same l i v 0 (omega arith),
  rw (add-one i) (sets_stand vs (set l i v) (suc i) (rw length-set (omega arith))),
)

-- ---- and is read back

module _ (s : List ℕ) where
  stands_in_lem : (left at v least : ℕ) → least ≤ v → Stands s at (groups_of (suc left) v)
      → (128 ≤ v → Stands s (at + 1) (groups_of left (v / 128)) → Accepted s left 1 (at + 1) (v / 128) (at + 1 + length (groups_of left (v / 128))))
      → (t : Bool) → ltb v 128 ≡ t → Accepted s (suc left) least at v (at + length (groups_of (suc left) v))
  stands_in_lem left at v least l st ih true e =
      let d : groups_of (suc left) v ≡ v ∷ [] = groups_of_last left v (ltb-true v 128 e) in
      let st' : Stands s at (v ∷ []) = rw d at st in
      rw d (ended {least = least} st'.0 (omega (arith, ltb-true v 128 e)) (omega arith) (sym st'.1) refl)
  stands_in_lem left at v least l st ih false e =
      let h : 128 ≤ v = ltb-false v 128 e in
      let d : groups_of (suc left) v ≡ (v % 128 + 128) ∷ groups_of left (v / 128) = groups_of_more left v h in
      let st' : Stands s at ((v % 128 + 128) ∷ groups_of left (v / 128)) = rw d at st in
      let past : at + length (groups_of (suc left) v) ≡ at + 1 + length (groups_of left (v / 128)) = rw d (omega arith) in
      rw past (more {value = v} (v / 128) st'.0 (omega arith) (omega arith) (ih h st'.2))

  stands_accepted : (left at v least : ℕ) → least ≤ v → v < 128 ^ suc left → Stands s at (groups_of (suc left) v)
      → Accepted s (suc left) least at v (at + length (groups_of (suc left) v))
  stands_accepted zero at v least l b st = stands_in_lem zero at v least l st (λ h _. absurd (omega arith)) _ refl
  stands_accepted (suc left) at v least l b st =
      stands_in_lem (suc left) at v least l st (λ h. stands_accepted left (at + 1) (v / 128) 1 (omega arith) (omega arith)) _ refl

  pub stands_read : (at v : ℕ) → v < 268435456 → Stands s at (bytes_of v) → number_at s at ≡ got v (at + length (bytes_of v))
  unfolding number_at bytes_of
  stands_read at v h st = ap (out_of (length s) at) (accepted_groups s (stands_accepted 3 at v 0 (omega arith) h st))

pub read_put : (d : List ℕ) (at v : ℕ) → v < 268435456 → at + length (bytes_of v) ≤ length d
    → number_at (sets d at (bytes_of v)) at ≡ got v (at + length (bytes_of v))
read_put d at v h r = stands_read (sets d at (bytes_of v)) at v h (sets_stand (bytes_of v) d at r)

-- ---- an accepted number is what is written for its value

-- the elements of a slice of bytes
abbrev pub Bytes : List ℕ → Type 0
Bytes s = (i : ℕ) → get_or s i 0 < 256

-- s holds the bytes of v at `at`, and n is past them
pub record Written (s : List ℕ) (left at v n : ℕ) : Type 0 where
  pub stand : Stands s at (groups_of left v)
  pub past : n ≡ at + length (groups_of left v)

module _ (s : List ℕ) (bs : Bytes s) where
  accepted_written : (left : ℕ) {least at v n : ℕ} → Accepted s left least at v n → Written s left at v n
  accepted_written zero {least = least} {at = at} {v = v} {n = n} x' = elim x' [ ]
  accepted_written (suc left) {at = at} {v} (ended h l z e m) =
      let d : groups_of (suc left) v ≡ v ∷ [] = groups_of_last left v (omega arith) in
      record { stand = rw d (h, sym e, tt); past = rw d m }
  accepted_written (suc left) {at = at} {v} {n} (more w h l e a) =
      let one : 1 ≤ w = accepted_one s a in
      let ew : v / 128 ≡ w = omega (arith, bs at) in
      let eb : v % 128 + 128 ≡ get_or s at 0 = omega (arith, bs at) in
      let d : groups_of (suc left) v ≡ get_or s at 0 ∷ groups_of left w = rw (groups_of_more left v (omega arith), ew, eb) in
      let above : Written s left (at + 1) w n = accepted_written left a in
      record { stand = rw d (h, refl, above.stand); past = rw d (omega arith) }

stands_part : (bs s : List ℕ) (at : ℕ) → Stands s at bs → take (length bs) (drop at s) ≡ bs
stands_part [] s at st = refl
stands_part (b ∷ bs) s at st =
    let r : take (length bs) (drop (suc at) s) ≡ bs = stands_part bs s (suc at) (rw (add-one at) at st.2) in
    rw (drop-cons s at 0 st.0, r, st.1)

pub put_read : (s : List ℕ) (at v n : ℕ) → Bytes s → number_at s at ≡ got v n
    → (n ≡ at + length (bytes_of v)) × (take (length (bytes_of v)) (drop at s) ≡ bytes_of v)
unfolding bytes_of
put_read s at v n bs q =
    let w : Written s 4 at v n = accepted_written s bs 4 (number_accepted s at v n q) in
    (w.past, stands_part (groups_of 4 v) s at w.stand)
