-- Where a reader stands after a row (document 01, "Numbers": a reader "moves on only past whole numbers").
use Rattle.std.specs.Prelude.{ℕ, List, [], ◌∷◌}
use Rattle.numbers.specs.Reading.{Out, got, bad}
use Rattle.reader.specs.declared.Reader.{Reader}
use Rattle.reader.specs.Readers.{moved_on}
use Rattle.cells.specs.declared.columns.Column.{Column}
use Rattle.cells.specs.declared.columns.Column.TheVariants.{Within, Below, Absent}
use Rattle.cells.specs.Rows.{cell_at}

-- past the number that a column asks for; a column that is not there asks for none
abbrev pub past_cell : Column → Reader → Reader
past_cell (Within low most) r = moved_on r
past_cell (Below end) r = moved_on r
past_cell Absent r = r

-- a reader goes on where the cell was read, and stays where it is refused
abbrev pub only_after : Out ℕ → Reader → (Reader → Reader) → Reader
only_after (got v next) r f = f r
only_after (bad x) r f = r

-- past each whole number that the columns ask for, up to the first cell that is refused. A number that is cut or too long is not whole, so the reader
-- stays at it; one outside its range is
unfoldable pub past_row : List Column → Reader → Reader
past_row [] r = r
past_row (c ∷ cs) r = only_after (cell_at c r.src.now r.at) (past_cell c r) (past_row cs)
