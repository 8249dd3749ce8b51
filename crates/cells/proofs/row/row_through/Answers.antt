-- `cells::row::row_through` meets its contract: a turn reads the cell where the reader stands and moves the reader on.
use mathlib.Core.Path.{sym, ap, ◌∙◌}
use Rattle.std.proofs.lemmas.Result.{err_from_is_err_and}
use Rattle.numbers.specs.Reading.{part_of}
use Rattle.numbers.proofs.ReadingLaws.{value_got, value_bad}
use Rattle.cells.proofs.RowLaws.{fill_more, fill_bad, fill_end}
use Rattle.cells.proofs.row.row_through.Goals as goal

pub returns-in_err-cells : goal.returns-in_err-cells
returns-in_err-cells c =
    let exit = err_from_is_err_and c.from_residual.result c.from_residual.ensures.1 in
    let bad = value_bad _ (sym c.in_err-cells.was ∙ c.read_cell.ensures.0) in
    let (row, past) = fill_bad c.loop-i.invariant c.loop-i-test.true bad in
    (rw (exit.1, exit.2) (sym (ap part_of row)), c.read_cell.ensures.1 ∙ sym past)

pub loop-i-preserved : goal.loop-i-preserved
loop-i-preserved c =
    let got = value_got _ (sym c.in_ok-cells.was ∙ c.read_cell.ensures.0) in
    rw (c.read_cell.ensures.1) (fill_more c.loop-i.invariant c.loop-i-test.true got.1)

pub returns : goal.returns
returns c =
    let (row, past) = fill_end c.loop-i.invariant c.loop-i-test.false in
    (rw (c.place.ensures) (sym (ap part_of row)), sym past)
