-- Rows in range of a plan's sizes (01, "The table, in file order").
use Rattle.std.specs.Prelude.{List, ℕ, ◌*◌, ◌<◌, ◌≤◌, length}
use Rattle.positions.specs.Plans.{Plan}
use Rattle.store.specs.declared.rows.Row.{Row}
use Rattle.store.specs.Reading.{row_of}

-- every number of a row is in its range; a and b bound the last two, whose columns differ by kind
pub record RowIn (s : Plan) (a b : ℕ) (r : Row) : Type 0 where
  pub t : r.t < s.n
  pub g : r.g < s.g
  pub l : r.l < s.l
  pub u : r.u < a
  pub v : r.v < b

-- the first n of a sequence of rows are in range
abbrev pub EachIn : Plan → ℕ → ℕ → (ℕ → Row) → ℕ → Type 0
EachIn s a b row n = (i : ℕ) → i < n → RowIn s a b (row i)

-- the slice has n rows or more, and the first n are in range
pub record RowsIn (s : Plan) (a b : ℕ) (rows : List ℕ) (n : ℕ) : Type 0 where
  pub long : n * 5 ≤ length rows
  pub fit : EachIn s a b (row_of rows) n
