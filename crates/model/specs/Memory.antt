-- What a memory holds, and the number of facts (01, "Working memory and claims": "One byte per fact, 1 if it holds, else 0.").
use Rattle.std.specs.Prelude.{◌≡◌, List, ℕ, zero, suc, ◌+◌, ◌≤◌, ◌<◌, length, get_or}
use Rattle.files.specs.Table.{Table, W}
use Rattle.model.specs.Rules.{Fact, Derives}
use Rattle.model.specs.Positions.{Fits, pos, fact_at}

-- the mark at position p: the one place that says where a fact's mark stands
abbrev pub mark : List ℕ → ℕ → ℕ
mark mem p = get_or mem p 0

-- the first W marks are 0 or 1
abbrev pub Bits : Table → List ℕ → Type 0
Bits T mem = (p : ℕ) → p < W T → mark mem p ≤ 1

-- a mark says whether A holds
pub data Says (A : Type 0) : ℕ → Type 0 where
  holds : A → Says A 1
  fails : ¬ A → Says A 0

-- the first W bytes hold S: they say of each fact whether it is in S
pub record Holds (T : Table) (S : Fact → Type 0) (mem : List ℕ) : Type 0 where
  pub long : W T ≤ length mem
  pub says : (p : ℕ) → p < W T → Says (S (fact_at T p)) (mark mem p)

-- "On 0 the first W bytes hold the relations"
abbrev pub Relations : Table → List ℕ → Type 0
Relations T mem = Holds T (Derives T) mem

-- the set of facts that a memory marks
pub record Marked (T : Table) (mem : List ℕ) (f : Fact) : Type 0 where
  pub fits : Fits T f
  pub one : mark mem (pos T f) ≡ 1

-- the sum of the first w marks
unfoldable pub total : List ℕ → ℕ → ℕ
total mem zero = 0
total mem (suc w) = total mem w + mark mem w

-- c of the numbers below w are in A
pub data Counts (A : ℕ → Type 0) : ℕ → ℕ → Type 0 where
  none : Counts A 0 0
  one : {w c : ℕ} → Counts A w c → A w → Counts A (suc w) (suc c)
  skip : {w c : ℕ} → Counts A w c → ¬ A w → Counts A (suc w) c

-- c of the facts that have a position are in S
abbrev pub CountOf : Table → (Fact → Type 0) → ℕ → Type 0
CountOf T S c = Counts (λ p. S (fact_at T p)) (W T) c

-- the reported count ("Budget"): the least relations hold c facts, G, P and Q together
abbrev pub FactCount : Table → ℕ → Type 0
FactCount T c = CountOf T (Derives T) c

-- 8, "more facts than the budget": some memory marks more than that, and nothing but derivable facts
pub record Exceeds (T : Table) (budget : ℕ) : Type 0 where
  pub mem : List ℕ
  pub bits : Bits T mem
  pub derivable : (f : Fact) → Marked T mem f → Derives T f
  pub over : budget < total mem (W T)
