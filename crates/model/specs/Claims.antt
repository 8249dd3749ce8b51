-- What is found of a claim that was read (01, "What comes back": the answers 0, 9, 10 and 11). S is the set of the claimed facts.
use Rattle.std.specs.Prelude.{◌≡◌, ℕ, ◌<◌}
use mathlib.Core.List.{List, map, Memᴰ}
use Rattle.files.specs.Table.{Table, W}
use Rattle.model.specs.Rules.{Fact, Yields, start_fact, Starts, ClosedWithStarts}
use Rattle.model.specs.Errors.{Witness, Allows, Safe}
use Rattle.model.specs.Positions.{fact_at}

-- the facts at the positions that a claim lists (01, "Working memory and claims")
abbrev pub Claimed : Table → List ℕ → Fact → Type 0
Claimed T ps f = Memᴰ f (map (fact_at T) ps)

-- p is the smallest number in A
pub record First (A : ℕ → Type 0) (p : ℕ) : Type 0 where
  pub here : A p
  pub none : (q : ℕ) → q < p → ¬ A q

-- 9: S lacks the start fact of thread t
pub record LacksStart (T : Table) (S : Fact → Type 0) (t : ℕ) : Type 0 where
  pub thread : t < T.n
  pub not : ¬ S (start_fact T t)

-- 10: one use of a rule yields the fact at position p from facts in S, and S lacks it
pub record Missing (T : Table) (S : Fact → Type 0) (p : ℕ) : Type 0 where
  pub below : p < W T
  pub yields : Yields T S (fact_at T p)
  pub not : ¬ S (fact_at T p)

-- 11: S allows an error by the row
pub record AllowsRow (T : Table) (S : Fact → Type 0) (row : ℕ) : Type 0 where
  pub witness : Witness
  pub by : witness.row ≡ row
  pub allows : Allows T S witness

-- an answer with its value, the claim's count aside
pub data Finding : Type 0 where
  accepted : Finding
  lacks_start : (t : ℕ) → Finding
  not_closed : (p : ℕ) → Finding
  allows_error : (row : ℕ) → Finding

-- "then 9, 10, 11": the smallest thread whose start fact is lacking; else the smallest missing position; else the smallest row of an allowed
-- error; and a claim with none of these is accepted
pub data Finds (T : Table) (S : Fact → Type 0) : Finding → Type 0 where
  whole : ClosedWithStarts T S → Safe T S → Finds T S accepted
  lacking : {t : ℕ} → First (LacksStart T S) t → Finds T S (lacks_start t)
  missing : {p : ℕ} → Starts T S → First (Missing T S) p → Finds T S (not_closed p)
  allowing : {row : ℕ} → ClosedWithStarts T S → First (AllowsRow T S) row → Finds T S (allows_error row)
