-- `reader::fields::version` meets its contract: each way out is a law of `version_at`, from what `number_at` gave.
use mathlib.Core.Path.{sym, ap, ◌∙◌}
use Rattle.std.proofs.lemmas.Result.{err_from_is_err_and}
use Rattle.numbers.specs.Reading.{part_of}
use Rattle.numbers.proofs.ReadingLaws.{part_got, part_bad}
use Rattle.numbers.proofs.VersionLaws.{version_one, version_other, version_bad}
use Rattle.reader.proofs.fields.version.Goals as goal

pub returns-in_err-version : goal.returns-in_err-version
returns-in_err-version c =
    let exit = err_from_is_err_and c.from_residual.result c.from_residual.ensures.1 in
    let was = part_bad _ (sym c.in_err-version.was ∙ c.number_at.ensures) in
    rw (exit.1, exit.2) (sym (ap part_of (version_bad _ was)))

pub returns-then-version-ne-VERSION : goal.returns-then-version-ne-VERSION
returns-then-version-ne-VERSION c =
    let was = part_got _ (sym c.in_ok-version.was ∙ c.number_at.ensures) in
    sym (ap part_of (version_other _ was c.if-version-ne-VERSION.true))

pub returns : goal.returns
returns c =
    let was = part_got _ (sym c.in_ok-version.was ∙ c.number_at.ensures) in
    sym (ap part_of (version_one _ was c.if-version-ne-VERSION.false))
