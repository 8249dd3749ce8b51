-- The local stores that a thread reaches: by the marks, for a cell, and for the cell 0, which fits them all.
use mathlib.Core.Path.{◌≡◌, refl, sym, ◌∙◌}
use mathlib.Core.Bool.{Bool, true, false}
use mathlib.Core.Logic.{inl}
use mathlib.Core.List.{List}
use Prim.Native.Nat.{ℕ, ◌+◌, ◌*◌, ◌<◌}
use native.Mathlib.Nat.{zero-add}
use native.Mathlib.Omega.{arith}
use Rattle.std.proofs.Common.{MatchBool, length, Option, Some, None}
use Rattle.std.proofs.lemmas.Bool.{true≢false}
use Rattle.std.specs.Option.{option_eq}
use lib.Dec.{eqb}
use borrow.Author.Tests.{eqb-true, eqb-false}
use Rattle.std.proofs.lemmas.List.FromFn.{length-range_with_len, get_or-range_with_len}
use Rattle.std.specs.List.{range_with_len, HoldsAt, AllWithin}
use Rattle.model.specs.Claims.{First}
use Rattle.model.proofs.Unique.{first_same}
use Rattle.positions.specs.Plans.{Plan, pair, p_at}
use Rattle.store.specs.Marking.{Has, Is}
use Rattle.reaching.specs.Reaching.{Reached, Choice, Least}

-- x is where the P facts of t begin that end at g, l; whether one of those from the pairs below k is marked
module _ (s : Plan) (m : List ℕ) (g t : ℕ) {l k x : ℕ} (at_x : x ≡ p_at s t (pair s g l)) (same : k ≡ s.k) (ll : l < s.l) where
  pub some_reached : (r : Bool)
      → MatchBool r ((i : ℕ) × (i < length (range_with_len 0 k)) × HoldsAt (λ j. Has m (x + j * k)) (range_with_len 0 k) i)
      (AllWithin (λ j. ¬ Has m (x + j * k)) (range_with_len 0 k) 0 (length (range_with_len 0 k)))
      → Is (Reached s m g t l) r
  some_reached true (i, il, has) =
      let jl : i < k = rw length-range_with_len at il in
      let e = get_or-range_with_len 0 k i 0 jl ∙ zero-add i in
      record { l_lt = ll; j = i; j_lt = omega arith; has = rw (e, at_x, same) at (has 0) }
  some_reached false none = λ r.
      let jl : r.j < k = omega (arith, r.j_lt) in
      let long = length-range_with_len 0 k in
      let e = get_or-range_with_len 0 k r.j 0 jl ∙ zero-add r.j in
      rw e at (none r.j 0 (omega arith) (omega arith)) (rw (at_x, same) r.has)

-- ---- a choice for the cell 0, which fits every store

-- the smallest store for the cell 0 is the smallest that is reached
any_first : {A : ℕ → Type 0} {r : ℕ} → First (Choice A 0) r → First A r
any_first f = record { here = f.here.reached; none = λ q l a. f.none q l (record { fits = inl refl; reached = a }) }

-- whether that is k
pub smallest_is : (A : ℕ → Type 0) (n k : ℕ) (r : Option ℕ) → Least (Choice A 0) n r → (b : Bool) → b ≡ option_eq eqb r (Some k) → Is (First A k) b
smallest_is A n k None none true e = absurd (true≢false e)
smallest_is A n k None none false e = λ f. none k (record { fits = inl refl; reached = f.here })
smallest_is A n k (Some r) (l, f) true e = let same = eqb-true r k (sym e) in rw same at (any_first f)
smallest_is A n k (Some r) (l, f) false e = λ g. eqb-false r k (sym e) (first_same (any_first f) g)
