-- `lists::list::next_row` meets its contract: the row is read, and compared with the one before where there is one.
use mathlib.Core.Path.{sym, ap, ◌∙◌}
use Rattle.std.proofs.Common.{rules}
use Rattle.std.proofs.lemmas.Result.{err_from_is_err_and}
use Rattle.numbers.specs.Reading.{part_of}
use Rattle.numbers.proofs.ReadingLaws.{part_got, part_bad}
use Rattle.cells.specs.Rows.{row_at}
use Rattle.lists.proofs.OrderLaws.{at_most, not_at_most}
use Rattle.lists.proofs.ListLaws.{next_first, next_yes, next_no, next_bad}
use Rattle.lists.proofs.list.next_row.Goals as goal

pub returns-in_err-row : goal.returns-in_err-row
returns-in_err-row c =
    let exit = err_from_is_err_and c.from_residual.result c.from_residual.ensures.1 in
    rw (exit.1, exit.2) (sym (ap part_of (next_bad _ _ _ _ (part_bad (row_at _ _ _) (sym c.in_err-row.was ∙ c.row.ensures)))))

pub returns-in-Some : goal.returns-in-Some
returns-in-Some c =
    let row = part_got (row_at _ _ _) (sym c.in_ok-row.was ∙ c.row.ensures) in
    rw (c.no_row.ensures, c.in-Some.is) (sym (ap part_of (next_no _ _ _ _ row (at_most _ _ (rw (c.in-Some.old-is) at c.le.ensures) c.if-le.true))))

pub returns-in_default : goal.returns-in_default
returns-in_default c =
    let row = part_got (row_at _ _ _) (sym c.in_ok-row.was ∙ c.row.ensures) in
    rw (c.in-Some.is) (sym (ap part_of (next_yes _ _ _ _ row (not_at_most _ _ (rw (c.in-Some.old-is) at c.le.ensures) c.if-le.false))))

pub returns-in_default-2 : goal.returns-in_default-2
returns-in_default-2 c =
    let row = part_got (row_at _ _ _) (sym c.in_ok-row.was ∙ c.row.ensures) in
    rw (c.in_default.is) (sym (ap part_of (next_first _ _ _ (search rules) row)))
