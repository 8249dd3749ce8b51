-- `lists::list::keep_cell` meets its contract: a cell that was found is the number at its place, and the cell of a column that is not there is 0.
use mathlib.Core.Path.{sym, ◌∙◌}
use Rattle.lists.proofs.RowKeeping.{cell_found, cell_kept, absent_kept}
use Rattle.lists.proofs.list.keep_cell.Goals as goal

pub keep_number-requires : goal.keep_number-requires
keep_number-requires c =
    (cell_found _ _ _ (sym c.range.ensures.value ∙ c.in-Some.is) c.in-Some.ensures.byte c.requires.0, c.requires.1)

pub returns-in-Some : goal.returns-in-Some
returns-in-Some c =
    cell_kept _ _ _ (sym c.range.ensures.value ∙ c.in-Some.is) c.in-Some.ensures.byte c.requires.0 c.keep_number.ensures

pub returns-in-None : goal.returns-in-None
returns-in-None c = absent_kept _ _ _ (sym c.range.ensures.value ∙ c.in-None.is)
