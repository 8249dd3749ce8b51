-- `lists::list::find_rows` meets its contract: a turn reads the next row.
use mathlib.Core.Path.{sym, ap, ◌∙◌}
use Rattle.std.proofs.lemmas.Result.{err_from_is_err_and}
use Rattle.numbers.proofs.ReadingLaws.{part_got, part_bad}
use Rattle.reader.specs.Ends.{end_of}
use Rattle.lists.specs.Lists.{next_row}
use Rattle.lists.proofs.ListLaws.{find_more, find_bad, find_end}
use Rattle.lists.proofs.list.find_rows.Goals as goal

pub returns-in_err-row : goal.returns-in_err-row
returns-in_err-row c =
    let exit = err_from_is_err_and c.from_residual.result c.from_residual.ensures.1 in
    let bad = part_bad (next_row _ _ _ _) (sym c.in_err-row.was ∙ c.next_row.ensures) in
    rw (exit.1, exit.2) (sym (ap end_of (find_bad c.loop-i.invariant c.loop-i-test.true bad)))

pub loop-i-preserved : goal.loop-i-preserved
loop-i-preserved c =
    find_more c.loop-i.invariant c.loop-i-test.true (part_got (next_row _ _ _ _) (sym c.in_ok-row.was ∙ c.next_row.ensures))

pub returns : goal.returns
returns c = find_end c.loop-i.invariant c.loop-i-test.false
