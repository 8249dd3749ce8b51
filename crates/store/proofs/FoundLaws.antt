-- What a test over many places gathers: whether it held somewhere. Or and And of the answers of tests say what they say of what is tested.
use mathlib.Core.Path.{◌≡◌, subst}
use mathlib.Core.Bool.{Bool, true, false, not, ◌||◌, ◌&&◌}
use mathlib.Core.Logic.{◌⊎◌, inl, inr, ⊎_elim}
use mathlib.Core.List.{List}
use Prim.Native.Nat.{ℕ, ◌+◌, ◌<◌}
use native.Mathlib.Decide.{dec_lt}
use native.Mathlib.Omega.{arith}
use lib.Dec.{eqb}
use Rattle.model.specs.Memory.{mark}
use Rattle.store.specs.Marking.{Has, Among, SomeIn, LacksIn, Is}
use Rattle.store.proofs.MarkLaws.{has_test}

-- ---- tests together

pub is_not : (A : Type 0) (r : Bool) → Is A r → Is (¬ A) (not r)
is_not A true a = λ n. n a
is_not A false n = n

is_and : (A B : Type 0) (r s : Bool) → Is A r → Is B s → Is (A × B) (r && s)
is_and A B true true a b = (a, b)
is_and A B true false a n = λ p. n p.1
is_and A B false s n b = λ p. n p.0

-- ---- tests over places

module _ (A : ℕ → Type 0) (j : ℕ) where
  -- one of the first j + 1 is one of the first j, or j
  among_last : Among A (j + 1) → Among A j ⊎ A j
  among_last a = go (dec_lt a.j j)
    where
      go : Dec (a.j < j) → Among A j ⊎ A j
      go (yes l) = inl (record { j = a.j; lt = l; here = a.here })
      go (no l) = let e : a.j ≡ j = omega (arith, a.lt) in inr (subst A e a.here)

  pub among_next : (found here : Bool) → Is (Among A j) found → Is (A j) here → Is (Among A (j + 1)) (found || here)
  among_next true here a _ = record { j = a.j; lt = omega (arith, a.lt); here = a.here }
  among_next false true n a = record { j = j; lt = omega arith; here = a }
  among_next false false n m = λ a. ⊎_elim n m (among_last a)

module _ (m : List ℕ) (x j : ℕ) (found : Bool) where
  pub some_next : Is (SomeIn m x j) found → Is (SomeIn m x (j + 1)) (found || eqb (mark m (x + j)) 1)
  some_next s = among_next (λ i. Has m (x + i)) j found (eqb (mark m (x + j)) 1) s (has_test m (x + j))

  pub lacks_next : (y : ℕ) → Is (LacksIn m x y j) found → Is (LacksIn m x y (j + 1)) (found || (eqb (mark m (x + j)) 1 && not (eqb (mark m (y + j)) 1)))
  lacks_next y s =
      let here = eqb (mark m (x + j)) 1 in
      let there = eqb (mark m (y + j)) 1 in
      among_next (λ i. Has m (x + i) × ¬ Has m (y + i)) j found (here && not there) s
      (is_and _ _ here (not there) (has_test m (x + j)) (is_not _ there (has_test m (y + j))))
