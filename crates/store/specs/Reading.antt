-- The rows of a table as they are lent: a slice of bytes for each kind, five to a row, of which the first n rows count; and such rows as a
-- list of structs.
use Rattle.std.specs.Prelude.{◌≡◌, ℕ, ◌+◌, ◌*◌, ◌<◌, ◌≤◌, get_or}
use mathlib.Core.List.{List, Memᴰ}
use Rattle.files.specs.Table.{Table, Step, Push, Pop}
use Rattle.store.specs.declared.rows.Row.{Row}
use Rattle.store.specs.declared.rows.RowCounts.{RowCounts}

-- row i of a list of bytes: the five from 5 * i on
abbrev pub row_of : List ℕ → ℕ → Row
row_of rows i =
    record {
      t = get_or rows (i * 5) 0;
      g = get_or rows (i * 5 + 1) 0;
      l = get_or rows (i * 5 + 2) 0;
      u = get_or rows (i * 5 + 3) 0;
      v = get_or rows (i * 5 + 4) 0;
    }

-- what stands where there is no row
abbrev pub zero_row : Row
zero_row = record { t = 0; g = 0; l = 0; u = 0; v = 0 }

-- row k of a list of rows; past its end, a row of zeros
abbrev pub nth : List Row → ℕ → Row
nth rows k = get_or rows k zero_row

-- a list of rows has the first n rows of a list of bytes, and rows of zeros after them
pub record Unpacked (bytes : List ℕ) (n : ℕ) (rows : List Row) : Type 0 where
  pub read : (k : ℕ) → k < n → nth rows k ≡ row_of bytes k
  pub rest : (k : ℕ) → n ≤ k → nth rows k ≡ zero_row

-- the row as each of the three kinds
abbrev pub as_step : Row → Step
as_step r = record { t = r.t; g = r.g; l = r.l; g' = r.u; l' = r.v }

abbrev pub as_push : Row → Push
as_push r = record { t = r.t; g = r.g; l = r.l; l' = r.u; f = r.v }

abbrev pub as_pop : Row → Pop
as_pop r = record { t = r.t; g = r.g; l = r.l; f = r.u; l' = r.v }

-- a is one of the first n rows
pub record Nth {A : Type 0} (of : Row → A) (rows : List ℕ) (n : ℕ) (a : A) : Type 0 where
  pub i : ℕ
  pub lt : i < n
  pub here : of (row_of rows i) ≡ a

-- the first n rows of a list of bytes are those of a table's list
pub record Same {A : Type 0} (of : Row → A) (rows : List ℕ) (n : ℕ) (l : List A) : Type 0 where
  pub to : (i : ℕ) → i < n → Memᴰ (of (row_of rows i)) l
  pub fro : (a : A) → Memᴰ a l → Nth of rows n a

-- the lent rows are the table's
pub record Reads (T : Table) (n : RowCounts) (st pu po : List ℕ) : Type 0 where
  pub steps : Same as_step st n.steps T.steps
  pub pushes : Same as_push pu n.pushes T.pushes
  pub pops : Same as_pop po n.pops T.pops
