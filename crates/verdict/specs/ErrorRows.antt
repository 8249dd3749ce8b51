-- What the search asks and answers: the lent bytes are a table's error rows, and the answer is the verdict on the facts that a memory marks
-- (01, "The rules"). Only the contract of `judge`, which asks for such rows, and those of private functions cite it.
use Rattle.std.specs.Prelude.{◌≡◌, List, ℕ, ◌<◌, ◌≤◌, length, get_or, take, Option, Some, None}
use Rattle.files.specs.Table.{Table, Sound, Error, error_cells}
use Rattle.model.specs.Errors.{Allows}
use Rattle.model.specs.Verdict.{◌≼◌}
use Rattle.model.specs.Memory.{Marked}
use Rattle.positions.specs.Plans.{Plan, plan_of}
use Rattle.reaching.specs.Reaching.{row_cell}
use Rattle.verdict.specs.declared.search.Verdict.{Verdict}
use Rattle.verdict.specs.Judged.{Answers}

-- What is lent is a table's: its plan, its failed cell, and its n error rows, cell by cell in file order. The table has every row that is asked
-- for, so d, which would stand for a row past the last, may be any.
pub record ErrorsOf (T : Table) (s : Plan) (failed : ℕ) (rows : List ℕ) (n : ℕ) : Type 0 where
  pub sound : Sound T
  pub plan : s ≡ plan_of T
  pub fails : failed ≡ T.failed
  pub count : n ≡ length T.errors
  pub cells : (d : Error) (i j : ℕ) → i < length T.errors → j < 5 → row_cell rows i j ≡ get_or (error_cells (get_or T.errors i d)) j 0

-- r is the verdict on the facts that a memory marks
abbrev pub Judged : Table → List ℕ → Verdict → Type 0
Judged T mem r = Answers T (Marked T mem) r

-- ---- one row at one shared store

-- the marks allow an error by the row at g, ls
abbrev pub Allowed : Table → List ℕ → ℕ → ℕ → List ℕ → Type 0
Allowed T m row g ls = Allows T (Marked T m) (record { row = row; shared = g; locals = ls })

-- the first of the four local stores, as many as there are threads, are the smallest list that the row allows at g; past these stands 0
pub record Smallest (T : Table) (m : List ℕ) (row g : ℕ) (ls : List ℕ) : Type 0 where
  pub four : length ls ≡ 4
  pub allowed : Allowed T m row g (take T.n ls)
  pub least : (vs : List ℕ) → Allowed T m row g vs → take T.n ls ≼ vs
  pub zeros : (t : ℕ) → T.n ≤ t → get_or ls t 0 ≡ 0

-- what is found for the row at g: the smallest list, or that it allows none
abbrev pub Found : Table → List ℕ → ℕ → ℕ → Option (List ℕ) → Type 0
Found T m row g None = (ls : List ℕ) → ¬ Allowed T m row g ls
Found T m row g (Some ls) = Smallest T m row g ls
