-- Laws of how a number is written.
--     groups_of_last, groups_of_more                    the bytes of a number, one group at a time
--     one_byte, .., one_to_four_bytes             how many they are
--     no_more_bytes                               no more than the number is large, and 0 takes one
--     bytes_last, bytes_more                      the bytes of a number by its lowest seven bits
--     put_room, put_big, put_full                 what `put_number` leaves where it writes, and where it does not
use mathlib.Core.Path.{◌≡◌, refl, sym, ◌∙◌}
use mathlib.Core.List.{List, [], ◌∷◌}
use mathlib.Core.Bool.{Bool, false}
use Prim.Native.Nat.{ℕ, zero, suc, ◌+◌, ◌/◌, ◌%◌, ◌^◌, max, ◌≤◌, ◌<◌}
use native.Mathlib.Decide.{dec_lt}
use native.Mathlib.Omega.{arith}
use borrow.Author.Tests.{lt-ltb, le-ltb, le-leb, lt-leb}
use lib.ListN.{length}
use lib.Seq.{sets}
use lib.Dec.{ltb}
use Rattle.numbers.specs.Writing.{groups_of, bytes_of, has_room, put_next, put_into}
use Rattle.numbers.proofs.ReadingLaws.{pick_either}

-- ---- the bytes of a number

module _ (left value : ℕ) where
  pub groups_of_last : value < 128 → groups_of (suc left) value ≡ value ∷ []
  unfolding groups_of
  groups_of_last h = simp (lt-ltb _ _ h)

  pub groups_of_more : 128 ≤ value → groups_of (suc left) value ≡ (value % 128 + 128) ∷ groups_of left (value / 128)
  unfolding groups_of
  groups_of_more h = simp (le-ltb _ _ h)

-- one byte at least, and no more than groups
groups_of_some : (left value : ℕ) → 1 ≤ length (groups_of (suc left) value)
unfolding groups_of
groups_of_some left value = pick_either (λ (l : List ℕ). 1 ≤ length l) (ltb value 128) (omega arith) (omega arith)

groups_of_most : (left value : ℕ) → length (groups_of left value) ≤ left
unfolding groups_of
groups_of_most zero value = omega arith
groups_of_most (suc left) value =
    pick_either (λ (l : List ℕ). length l ≤ suc left) (ltb value 128) (omega arith) (omega (arith, groups_of_most left (value / 128)))

module _ (value : ℕ) where
  pub one_byte : value < 128 → length (bytes_of value) ≡ 1
  unfolding bytes_of
  one_byte h = rw (groups_of_last 3 value h)

  pub two_bytes : 128 ≤ value → value < 16384 → length (bytes_of value) ≡ 2
  unfolding bytes_of
  two_bytes l h = rw (groups_of_more 3 value l, groups_of_last 2 (value / 128) (omega arith))

  pub three_bytes : 16384 ≤ value → value < 2097152 → length (bytes_of value) ≡ 3
  unfolding bytes_of
  three_bytes l h =
      rw (groups_of_more 3 value (omega arith), groups_of_more 2 (value / 128) (omega arith), groups_of_last 1 (value / 128 / 128) (omega arith))

  pub four_bytes : 2097152 ≤ value → length (bytes_of value) ≡ 4
  unfolding bytes_of
  four_bytes l =
      rw (groups_of_more 3 value (omega arith), groups_of_more 2 (value / 128) (omega arith), groups_of_more 1 (value / 128 / 128) (omega arith))
      (omega (arith, groups_of_some 0 (value / 128 / 128 / 128), groups_of_most 1 (value / 128 / 128 / 128)))

  pub one_to_four_bytes : (1 ≤ length (bytes_of value)) × (length (bytes_of value) ≤ 4)
  unfolding bytes_of
  one_to_four_bytes = (groups_of_some 3 value, groups_of_most 4 value)

  pub no_more_bytes : length (bytes_of value) ≤ max 1 value
  no_more_bytes = by (dec_lt value 128)
    where
      by : Dec (value < 128) → length (bytes_of value) ≤ max 1 value
      by (yes h) = omega (arith, one_byte h)
      by (no h) = omega (arith, one_to_four_bytes)

-- ---- a number in its bytes, put at a place

-- a group more than a number needs changes nothing
small_in : (left v : ℕ) → Dec (v < 128) → (128 ≤ v → groups_of (suc (suc left)) (v / 128) ≡ groups_of (suc left) (v / 128))
    → groups_of (suc (suc (suc left))) v ≡ groups_of (suc (suc left)) v
small_in left v (yes l) rest = groups_of_last (suc (suc left)) v l ∙ sym (groups_of_last (suc left) v l)
small_in left v (no l) rest =
    let more : 128 ≤ v = omega arith in
    rw (groups_of_more (suc (suc left)) v more, groups_of_more (suc left) v more, rest more)

groups_of_small : (left v : ℕ) → v < 128 ^ suc left → groups_of (suc (suc left)) v ≡ groups_of (suc left) v
groups_of_small zero v h = groups_of_last 1 v (omega arith) ∙ sym (groups_of_last 0 v (omega arith))
groups_of_small (suc left) v h = small_in left v (dec_lt v 128) (λ more. groups_of_small left (v / 128) (omega arith))

module _ (value : ℕ) where
  pub bytes_last : value < 128 → bytes_of value ≡ value ∷ []
  unfolding bytes_of
  bytes_last h = groups_of_last 3 value h

  pub bytes_more : 128 ≤ value → value < 268435456 → bytes_of value ≡ (value % 128 + 128) ∷ bytes_of (value / 128)
  unfolding bytes_of
  bytes_more l h = rw (groups_of_more 3 value l, groups_of_small 2 (value / 128) (omega arith))

-- ---- where there is room, and where not

module _ (d : List ℕ) (at value : ℕ) where
  pub put_room : value < 268435456 → at + length (bytes_of value) ≤ length d
      → (at + length (bytes_of value) ≡ put_next d at value) × (sets d at (bytes_of value) ≡ put_into d at value)
  unfolding put_next put_into has_room
  put_room h r = (simp (lt-ltb _ _ h, le-leb _ _ r), simp (lt-ltb _ _ h, le-leb _ _ r))

  pub put_big : 268435456 ≤ value → (at ≡ put_next d at value) × (d ≡ put_into d at value)
  unfolding put_next put_into has_room
  put_big h = (simp (le-ltb _ _ h), simp (le-ltb _ _ h))

  pub put_full : length d < at + length (bytes_of value) → (at ≡ put_next d at value) × (d ≡ put_into d at value)
  unfolding put_next put_into has_room
  put_full h =
      let no : has_room d at value ≡ false = simp (lt-leb _ _ h) (pick_either (λ (t : Bool). t ≡ false) (ltb value 268435456) refl refl) in
      (simp no, simp no)
