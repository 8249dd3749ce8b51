-- A row of numbers (document 01, "The table, in file order"): one definition for the rows of the four lists and for the parts of the header.
use Rattle.std.specs.Prelude.{ℕ, ◌+◌, List, [], ◌∷◌}
use Rattle.numbers.specs.Reading.{Out, got, bad, then, field_at}
use Rattle.cells.specs.declared.columns.Column.{Column}
use Rattle.cells.specs.declared.columns.Column.TheVariants.{Within, Below, Absent}

-- what was read, in front of what is read after it
abbrev pub push : {A : Type 0} → A → Out (List A) → Out (List A)
push a (got as' next) = got (a ∷ as') next
push a (bad r) = bad r

-- a cell: a number in its column's range; a column that is not there takes no bytes, and its cell is 0
unfoldable pub cell_at : Column → List ℕ → ℕ → Out ℕ
cell_at (Within low most) s at = field_at s at low (most + 1)
cell_at (Below end) s at = field_at s at 0 end
cell_at Absent s at = got 0 at

-- a row: a cell for each column
unfoldable pub row_at : List Column → List ℕ → ℕ → Out (List ℕ)
row_at [] s at = got [] at
row_at (c ∷ cs) s at = then (cell_at c s at) λ v next. push v (row_at cs s next)
