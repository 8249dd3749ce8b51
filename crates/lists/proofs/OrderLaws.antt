-- Laws of the order of rows.
--     below_more              a row whose first number is the larger is not below the other
--     at_most, not_at_most    of two rows the first is at most the second where the second is not below the first: the library's order is this one
use mathlib.Core.Path.{◌≡◌, refl}
use mathlib.Core.List.{List, ◌∷◌}
use mathlib.Core.Bool.{Bool, true, false, not}
use Prim.Native.Nat.{ℕ, ◌<◌}
use borrow.Author.Tests.{le-ltb, ne_eqb}
use Rattle.std.proofs.Common.{arith}
use Rattle.std.proofs.lemmas.Cmp.{same_from_slice_cmp_tested}
use Rattle.std.specs.Cmp.Lexicographic.{slice_partial_cmp}
use Rattle.std.specs.Ordering.{nat_cmp, is_le, is_some_and}
use Rattle.std.specs.Prelude.{Some}
use Rattle.lists.specs.Order.{below}

pub below_more : (a b : ℕ) (l m : List ℕ) → b < a → below (a ∷ l) (b ∷ m) ≡ false
unfolding below
below_more a b l m h = simp (ne_eqb a b (λ e. omega arith), le-ltb a b (omega arith))

not_below : (new old : List ℕ) (r : Bool) → r ≡ is_some_and is_le (slice_partial_cmp (λ x y. Some (nat_cmp x y)) new old) → r ≡ not (below old new)
unfolding below
not_below =
    same_from_slice_cmp_tested nat_cmp is_le (λ new old. not (below old new)) refl (λ _ _. refl) (λ _ _. refl) (λ x y xs ys o h. grind arith)

flip : (r t : Bool) → r ≡ not t → t ≡ not r
flip r true e = rw e
flip r false e = rw e

module _ (new old : List ℕ) {r : Bool} (is : r ≡ is_some_and is_le (slice_partial_cmp (λ x y. Some (nat_cmp x y)) new old)) where
  pub at_most : r ≡ true → below old new ≡ false
  at_most e = rw e at (flip r (below old new) (not_below new old r is))

  pub not_at_most : r ≡ false → below old new ≡ true
  not_at_most e = rw e at (flip r (below old new) (not_below new old r is))
