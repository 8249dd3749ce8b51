-- `cells::row::read_cell` meets its contract: the number that is asked for its column's range is the column's cell.
use mathlib.Core.Path.{sym, ap, ◌∙◌}
use Rattle.std.proofs.lemmas.Result.{err_from_is_err_and}
use Rattle.numbers.proofs.ReadingLaws.{part_got, part_bad}
use Rattle.numbers.specs.Reading.{value_of}
use Rattle.cells.proofs.RowLaws.{ranged_cell, absent_cell}
use Rattle.cells.proofs.row.read_cell.Goals as goal

pub returns-in_err-number-in-Some : goal.returns-in_err-number-in-Some
returns-in_err-number-in-Some c =
    let taken = rw (c.place-at.ensures, c.next-read.ensures.0) at c.ranged.ensures in
    let (cell, past) = ranged_cell c.args.column c.args.r.now (sym c.range.ensures.value ∙ c.in-Some.is) taken in
    let exit = err_from_is_err_and c.from_residual.result c.from_residual.ensures.1 in
    (rw (exit.1, exit.2) (sym (ap value_of (part_bad _ (sym c.in_err-number-in-Some.was ∙ cell)))), c.next-read.ensures.1 ∙ sym past)

pub returns-in_ok-number-in-Some : goal.returns-in_ok-number-in-Some
returns-in_ok-number-in-Some c =
    let taken = rw (c.place-at.ensures, c.next-read.ensures.0) at c.ranged.ensures in
    let (cell, past) = ranged_cell c.args.column c.args.r.now (sym c.range.ensures.value ∙ c.in-Some.is) taken in
    (sym (ap value_of (part_got _ (sym c.in_ok-number-in-Some.was ∙ cell))), c.next-read.ensures.1 ∙ sym past)

pub returns-in-None : goal.returns-in-None
returns-in-None c =
    let (cell, past) = absent_cell c.args.column c.args.r.now (sym c.range.ensures.value ∙ c.in-None.is) in
    (sym (ap value_of cell), sym past)
