-- `numbers::reading::number` meets its contract: a byte below 128 is the number; otherwise it is `groups` at four bytes, each arm what `out_of` gives
-- for its case.
use mathlib.Core.Path.{sym, ap, ◌∙◌}
use Rattle.std.specs.Prelude.{Err}
use Rattle.numbers.specs.Reading.{part_of}
use Rattle.numbers.proofs.NumberLaws.{number_groups, number_small}
use Rattle.numbers.proofs.reading.number.Goals as goal

pub returns-then-b-lt128 : goal.returns-then-b-lt128
returns-then-b-lt128 c = sym (ap part_of (number_small _ _ c.if-at-src.true c.from-b.ensures c.if-b-lt128.true))

pub returns-in-Ok : goal.returns-in-Ok
returns-in-Ok c = sym (ap part_of (number_groups _ _ (sym c.in-Ok.is ∙ c.groups.ensures)))

pub returns-in-Err-Cut : goal.returns-in-Err-Cut
returns-in-Err-Cut c =
    let arm = c.in-Err-Cut in
    sym (ap part_of (number_groups _ _ (ap Err (sym arm.field-0-is) ∙ sym arm.is ∙ c.groups.ensures)))

pub returns-in-Err-Long : goal.returns-in-Err-Long
returns-in-Err-Long c =
    let arm = c.in-Err-Long in
    sym (ap part_of (number_groups _ _ (ap Err (sym arm.field-0-is) ∙ sym arm.is ∙ c.groups.ensures)))
