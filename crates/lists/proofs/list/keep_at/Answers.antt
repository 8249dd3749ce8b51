-- `lists::list::keep_at` meets its contract: the count is read, and then as many rows are kept. Where the list is found, so are its count and its rows.
use mathlib.Core.Path.{sym, ◌∙◌}
use native.Mathlib.Omega.{arith}
use Rattle.numbers.specs.Reading.{field_at}
use Rattle.numbers.proofs.ReadingLaws.{part_got, part_bad}
use Rattle.numbers.proofs.FieldLaws.{field_got}
use Rattle.lists.proofs.ListLaws.{list_counted, list_uncounted}
use Rattle.lists.proofs.list.keep_at.Goals as goal

pub keep_rows-requires : goal.keep_rows-requires
keep_rows-requires c =
    let count = part_got (field_at _ _ _ _) (sym c.in-Ok.is ∙ rw (c.from.ensures) at c.field.ensures) in
    (rw (list_counted _ _ _ _ count) at c.requires.0, omega (arith, field_got _ _ _ _ _ _ count))

pub returns-in-Ok : goal.returns-in-Ok
returns-in-Ok c =
    let count = part_got (field_at _ _ _ _) (sym c.in-Ok.is ∙ rw (c.from.ensures) at c.field.ensures) in
    rw (list_counted _ _ _ _ count) c.keep_rows.ensures

pub returns-in_default : goal.returns-in_default
returns-in_default c = rw (list_uncounted c.args.most c.args.columns _ _ (part_bad (field_at _ _ _ _) (sym c.in_default.is ∙ rw (c.from.ensures) at c.field.ensures)))
