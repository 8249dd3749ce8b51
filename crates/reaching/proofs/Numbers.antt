-- The smallest and the last number of a set, and the thread that is picked.
use mathlib.Core.Path.{◌≡◌, refl, sym}
use Prim.Native.Nat.{ℕ, ◌+◌, ◌≤◌, ◌<◌}
use native.Mathlib.Omega.{arith}
use borrow.Author.Count.{below_more}
use Rattle.std.proofs.Common.{Option, Some, None, MatchOption}
use Rattle.model.specs.Claims.{First}
use Rattle.reaching.specs.Reaching.{Least, Last, Picked, already, forced}

pub some_not_none : {u : ℕ} → ¬ (◌≡◌ {A = Option ℕ} (Some u) None)
some_not_none e = cc

pub first_le : {A : ℕ → Type 0} {p q : ℕ} → First A p → A q → p ≤ q
first_le {A} {p} {q} f a = let no : ¬ (q < p) = λ l. f.none q l a in omega arith

-- what is found of the numbers below n, where A has no other
pub least_found : (A : ℕ → Type 0) (n : ℕ) (r : Option ℕ) → ((q : ℕ) → A q → q < n)
    → MatchOption r ((q : ℕ) → 0 ≤ q → q < n → ¬ A q) (λ q. (0 ≤ q) × (q < n) × A q × ((i : ℕ) → 0 ≤ i → i < q → ¬ A i))
    → Least A n r
least_found A n None below none = λ q a. none q (omega arith) (below q a) a
least_found A n (Some r) below (_, l, a, none) = (l, record { here = a; none = λ q h. none q (omega arith) h })

-- none below j is in A, and j is not
pub none_more : {A : ℕ → Type 0} {j : ℕ} → ((i : ℕ) → i < j → ¬ A i) → ¬ A j → (i : ℕ) → i < j + 1 → ¬ A i
none_more {A} {j} = below_more (λ i. ¬ A i) j

-- ---- the last number

module _ (A : ℕ → Type 0) {t : ℕ} where
  -- the last below t is the last below t + 1, if t is not in A; else t is
  pub last_stays : (u : Option ℕ) → Last A t u → ¬ A t → Last A (t + 1) u
  last_stays None none b = none_more none b
  last_stays (Some u) (l, a, none) b = (omega arith, a, λ i x y. below_more (λ i. u < i → ¬ A i) t (λ i y x. none i x y) (λ x. b) i y x)

  pub last_here : A t → Last A (t + 1) (Some t)
  last_here a = (omega arith, a, λ i x y. absurd (omega arith))

-- ---- the thread that is picked

-- of the threads before t, none has k for its smallest store, and u is the last that reaches it
pub record Picking (R : ℕ → ℕ → Type 0) (k t : ℕ) (u : Option ℕ) : Type 0 where
  pub none : (i : ℕ) → i < t → ¬ First (R i) k
  pub last : Last (λ i. R i k) t u

module _ {R : ℕ → ℕ → Type 0} {k : ℕ} where
  pub picking_none : Picking R k 0 None
  picking_none = record { none = λ i l. absurd (omega arith); last = λ i l. absurd (omega arith) }

  module _ {t : ℕ} {u : Option ℕ} (h : Picking R k t u) where
    pub picking_reached : R t k → ¬ First (R t) k → Picking R k (t + 1) (Some t)
    picking_reached a n = record { none = none_more h.none n; last = last_here (λ i. R i k) a }

    -- a thread that does not reach k has not k for its smallest
    pub picking_passed : ¬ R t k → Picking R k (t + 1) u
    picking_passed n = record { none = none_more h.none (λ f. n f.here); last = last_stays (λ i. R i k) u h.last n }

    pub picked_first : (n : ℕ) → t < n → First (R t) k → Picked R n k (Some t)
    picked_first n l f = already t refl l f h.none

    pub picked_last : (n : ℕ) → t ≡ n → Picked R n k u
    picked_last n e = rw e at (forced h.none h.last)

module _ {R : ℕ → ℕ → Type 0} {n k : ℕ} where
  pub picked_reaches : {t : ℕ} → Picked R n k (Some t) → (t < n) × R t k
  picked_reaches {t} (already t' e l f none) = let same : t ≡ t' = cc in rw same (l, f.here)
  picked_reaches (forced none (l, a, after)) = (l, a)

  pub picked_none : Picked R n k None → (t : ℕ) → t < n → ¬ R t k
  picked_none (already t e l f none) = absurd (some_not_none (sym e))
  picked_none (forced none nowhere) = nowhere
