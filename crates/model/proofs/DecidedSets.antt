-- A set of numbers that is decided, below a bound w: how many of them there are, at most w; and w marks that say which they are. So a set of facts
-- that is decided has its number of facts, and a memory of W bytes that holds it.
use mathlib.Core.Path.{◌≡◌, refl, ap}
use mathlib.Core.List.{List, [], ◌∷◌}
use Prim.Native.Nat.{ℕ, zero, suc, ◌≤◌, ◌<◌}
use native.Mathlib.Omega.{arith}
use lib.ListN.{length}
use Rattle.files.specs.Table.{Table, W}
use Rattle.model.specs.Rules.{Fact}
use Rattle.model.specs.Positions.{fact_at}
use Rattle.model.specs.Memory.{mark, Says, holds, fails, Holds, Counts, none, one, skip, CountOf}

-- ---- how many there are

pub counts_le : {A : ℕ → Type 0} {w c : ℕ} → Counts A w c → c ≤ w
counts_le none = omega arith
counts_le (one k _) = omega (arith, counts_le k)
counts_le (skip k _) = omega (arith, counts_le k)

decided_counts : {A : ℕ → Type 0} → ((p : ℕ) → Dec (A p)) → (w : ℕ) → (c : ℕ) × Counts A w c
decided_counts d zero = (0, none)
decided_counts {A} d (suc w) = add (d w) (decided_counts d w)
  where
    add : Dec (A w) → (c : ℕ) × Counts A w c → (c : ℕ) × Counts A (suc w) c
    add (yes a) (c, k) = (suc c, one k a)
    add (no n) (c, k) = (c, skip k n)

-- ---- which they are

bit : {A : Type 0} → Dec A → (x : ℕ) × Says A x
bit (yes a) = (1, holds a)
bit (no n) = (0, fails n)

-- the marks from the first on: behind it stand those of the numbers less one
decided_marks : {A : ℕ → Type 0} → ((p : ℕ) → Dec (A p)) → (w : ℕ)
    → (mem : List ℕ) × (length mem ≡ w) × ((p : ℕ) → p < w → Says (A p) (mark mem p))
decided_marks d zero = ([], refl, λ p l. absurd (omega arith))
decided_marks {A} d (suc w) = put (bit (d 0)) (decided_marks (λ p. d (suc p)) w)
  where
    put : (x : ℕ) × Says (A 0) x → (mem : List ℕ) × (length mem ≡ w) × ((p : ℕ) → p < w → Says (A (suc p)) (mark mem p))
        → (mem : List ℕ) × (length mem ≡ suc w) × ((p : ℕ) → p < suc w → Says (A p) (mark mem p))
    put (x, first) (mem, long, says) =
        (x ∷ mem, ap suc long, λ p. elim p as (λ k. k < suc w → Says (A k) (mark (x ∷ mem) k)) [ zero ↦ λ l. first | suc p ↦ λ l. says p (omega arith) ])

-- ---- of facts

module _ (T : Table) {S : Fact → Type 0} (d : (f : Fact) → Dec (S f)) where
  pub decided_counted : (c : ℕ) × CountOf T S c
  decided_counted = decided_counts (λ p. d (fact_at T p)) (W T)

  pub decided_held : (mem : List ℕ) × (length mem ≡ W T) × Holds T S mem
  decided_held =
      let (mem, long, says) = decided_marks (λ p. d (fact_at T p)) (W T) in
      (mem, long, record { long = omega arith; says = says })
