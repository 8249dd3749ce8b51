-- `files::table::read_table` meets its contract: the parts of the file are the table's; they are kept, and a refusal stores nothing.
use mathlib.Core.Path.{sym, ◌∙◌}
use Rattle.std.proofs.lemmas.Result.{err_from_is_err_and}
use Rattle.numbers.proofs.ReadingLaws.{value_got, value_bad}
use Rattle.files.proofs.TableStages.{accepted, refused}
use Rattle.files.proofs.table.read_table.Goals as goal

pub returns-in_err-parts : goal.returns-in_err-parts
returns-in_err-parts c =
    let exit = err_from_is_err_and c.from_residual.result c.from_residual.ensures.1 in
    rw (exit.1, exit.2) (refused (value_bad _ (sym c.in_err-parts.was ∙ c.find_parts.ensures)))

pub returns : goal.returns
returns c = accepted c.in_ok-parts.parts (value_got _ (sym c.in_ok-parts.was ∙ c.find_parts.ensures)).1 c.keep_parts.ensures
