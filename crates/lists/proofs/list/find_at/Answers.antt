-- `lists::list::find_at` meets its contract: the count is read, and then as many rows are found.
use mathlib.Core.Path.{sym, ap, ◌∙◌}
use Rattle.std.proofs.lemmas.Result.{err_from_is_err_and}
use Rattle.numbers.specs.Reading.{field_at}
use Rattle.numbers.proofs.ReadingLaws.{part_got, part_bad}
use Rattle.reader.proofs.EndLaws.{end_past, end_refused}
use Rattle.lists.specs.ListAnswers.{list_of}
use Rattle.lists.proofs.ListLaws.{list_counted, list_uncounted, rows_long}
use Rattle.lists.proofs.list.find_at.Goals as goal

pub returns-in_err-number : goal.returns-in_err-number
returns-in_err-number c =
    let exit = err_from_is_err_and c.from_residual.result c.from_residual.ensures.1 in
    let bad = part_bad (field_at _ _ _ _) (sym c.in_err-number.was ∙ rw (c.from.ensures) at c.field.ensures) in
    rw (exit.1, exit.2) (sym (ap list_of (list_uncounted _ _ _ _ bad)))

pub returns-in_err-next : goal.returns-in_err-next
returns-in_err-next c =
    let exit = err_from_is_err_and c.from_residual-in_err-next.result c.from_residual-in_err-next.ensures.1 in
    let count = part_got (field_at _ _ _ _) (sym c.in_ok-number.was ∙ rw (c.from.ensures) at c.field.ensures) in
    let rows = end_refused _ _ (sym c.find_rows.ensures ∙ c.in_err-next.was) in
    rw (exit.1, exit.2) (sym (ap list_of (list_counted _ _ _ _ count ∙ rows)))

pub returns : goal.returns
returns c =
    let count = part_got (field_at _ _ _ _) (sym c.in_ok-number.was ∙ rw (c.from.ensures) at c.field.ensures) in
    let (rows, found) = end_past _ _ (sym c.find_rows.ensures ∙ c.in_ok-next.was) in
    rw (list_counted c.args.most c.args.columns _ _ count, found, rows_long _ _ _ _ _ rows _ found)
