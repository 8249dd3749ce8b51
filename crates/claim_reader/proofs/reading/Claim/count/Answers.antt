-- `claim_reader::reading::Claim::count` meets its contract: the version, then the field past it.
use mathlib.Core.Path.{sym, ap, ◌∙◌}
use Rattle.std.proofs.lemmas.Result.{err_from_is_err_and}
use Rattle.numbers.specs.Reading.{part_of}
use Rattle.numbers.proofs.ReadingLaws.{part_got, part_bad}
use Rattle.claim_reader.proofs.PositionLaws.{count_after, count_bad}
use Rattle.claim_reader.proofs.reading.Claim.count.Goals as goal

pub returns-in_err-version : goal.returns-in_err-version
returns-in_err-version c =
    let exit = err_from_is_err_and c.from_residual.result c.from_residual.ensures.1 in
    rw (exit.1, exit.2) (sym (ap part_of (count_bad _ _ (part_bad _ (sym c.in_err-version.was ∙ c.version.ensures)))))

pub returns : goal.returns
returns c = c.field.ensures ∙ sym (ap part_of (count_after _ _ (part_got _ (sym c.in_ok-version.was ∙ c.version.ensures))))
