-- What a run is given, and that it is a table's (01, "The table, in file order").
use Rattle.std.specs.Prelude.{◌≡◌, List, ℕ, ◌*◌, ◌<◌, ◌≤◌, get_or, length}
use Rattle.files.specs.Table.{Table, Sound}
use Rattle.model.specs.Taken.{begins}
use Rattle.store.specs.declared.rows.RowCounts.{RowCounts}
use Rattle.positions.specs.Plans.{Plan, plan_of}
use Rattle.store.specs.Reading.{Reads}

-- the plan and the rows are a sound table's
pub record RowsOf (T : Table) (s : Plan) (n : RowCounts) (st pu po : List ℕ) : Type 0 where
  pub sound : Sound T
  pub plan : s ≡ plan_of T
  pub reads : Reads T n st pu po
  pub count : n.steps ≡ length T.steps
  pub long : (n.steps * 5 ≤ length st) × (n.pushes * 5 ≤ length pu) × (n.pops * 5 ≤ length po)

-- and the initial stores are the table's
pub record StartOf (T : Table) (g₀ : ℕ) (locals : List ℕ) : Type 0 where
  pub long : T.n ≤ length locals
  pub shared : T.g₀ ≡ g₀
  pub local : (t : ℕ) → t < T.n → begins T t ≡ get_or locals t 0
