-- A number in decimal, by its two equations: a number below 10 is its digit, any other is the digits of its tenth and one more.
-- The definition counts down how many digits there may be; with enough of them the count does not matter, so it is gone from these laws.
use mathlib.Core.Path.{◌≡◌, sym, ap, ◌∙◌}
use mathlib.Core.List.{[], ◌∷◌, ◌++◌}
use Prim.Native.Nat.{ℕ, zero, suc, ◌/◌, ◌%◌, ◌^◌, ◌≤◌, ◌<◌}
use native.Mathlib.Decide.{dec_lt}
use native.Mathlib.Omega.{arith}
use borrow.Author.Tests.{lt-ltb, le-ltb}
use lib.ListN.{length, length-append}
use Rattle.words.specs.Text.{digit, digits, decimal, field}
use Rattle.words.specs.Room.{field_room}

module _ (v : ℕ) where
  digits_one : (most : ℕ) → v < 10 → digits (suc most) v ≡ digit v ∷ []
  unfolding digits
  digits_one most h = simp (lt-ltb _ _ h)

  digits_more : (most : ℕ) → 10 ≤ v → digits (suc most) v ≡ digits most (v / 10) ++ (digit (v % 10) ∷ [])
  unfolding digits
  digits_more most h = simp (le-ltb _ _ h)

-- how many digits there may be does not matter, once that is above the number
digits_enough : (i j v : ℕ) → v < i → v < j → digits i v ≡ digits j v
digits_enough zero j v a b = absurd (omega arith)
digits_enough (suc i) zero v a b = absurd (omega arith)
digits_enough (suc i) (suc j) v a b = go (dec_lt v 10) (digits_enough i j (v / 10))
  where
    go : Dec (v < 10) → (v / 10 < i → v / 10 < j → digits i (v / 10) ≡ digits j (v / 10)) → digits (suc i) v ≡ digits (suc j) v
    go (yes h) e = digits_one v i h ∙ sym (digits_one v j h)
    go (no h) e = rw (digits_more v i (omega arith), digits_more v j (omega arith), e (omega arith) (omega arith))

module _ (v : ℕ) where
  pub decimal_one : v < 10 → decimal v ≡ digit v ∷ []
  unfolding decimal
  decimal_one h = digits_one v v h

  pub decimal_more : 10 ≤ v → decimal v ≡ decimal (v / 10) ++ (digit (v % 10) ∷ [])
  unfolding decimal
  decimal_more h =
      digits_more v v h ∙ ap (λ ds. ds ++ (digit (v % 10) ∷ [])) (digits_enough v (suc (v / 10)) (v / 10) (omega arith) (omega arith))

-- ---- how many digits there are

module _ (v : ℕ) where
  pub length_one : v < 10 → length (decimal v) ≡ 1
  length_one h = rw (decimal_one v h)

  pub length_more : 10 ≤ v → length (decimal v) ≡ suc (length (decimal (v / 10)))
  length_more h = rw (decimal_more v h, length-append) (omega arith)

-- a number below 10 ^ k has at most k digits, and 0 has one
decimal_length : (k v : ℕ) → v < 10 ^ suc k → length (decimal v) ≤ suc k
decimal_length zero v h = omega (arith, length_one v h)
decimal_length (suc k) v h = go (dec_lt v 10) (decimal_length k (v / 10))
  where
    go : Dec (v < 10) → (v / 10 < 10 ^ suc k → length (decimal (v / 10)) ≤ suc k) → length (decimal v) ≤ suc (suc k)
    go (yes l) f = omega (arith, length_one v l)
    go (no l) f = omega (arith, length_more v (omega arith), f (omega arith))

-- a number of 64 bits, with the blank before it
pub field_room_lem : (v : ℕ) → v < 2 ^ 64 → length (field v) ≤ field_room
field_room_lem v h = omega (arith, decimal_length 19 v (omega arith))
