-- `files::table::find_parts` meets its contract: the parts that it finds, one after the other, are the definition's.
use mathlib.Core.Path.{sym, ◌∙◌}
use Rattle.std.proofs.lemmas.Result.{err_from_is_err_and}
use Rattle.numbers.proofs.ReadingLaws.{part_got, part_bad}
use Rattle.reader.proofs.EndLaws.{end_past, end_refused, ends_for, goes_on_for}
use Rattle.lists.proofs.ListLaws.{list_found, list_refused}
use Rattle.files.specs.Stages.{parts_at}
use Rattle.files.proofs.table.find_parts.Goals as goal

pub returns-in_err-top : goal.returns-in_err-top
unfolding parts_at
returns-in_err-top c =
    let exit = err_from_is_err_and c.from_residual.result c.from_residual.ensures.1 in
    rw (exit.1, exit.2, part_bad _ (sym c.in_err-top.was ∙ c.read_header.ensures))

pub returns-in_err-steps : goal.returns-in_err-steps
unfolding parts_at
returns-in_err-steps c =
    let exit = err_from_is_err_and c.from_residual-in_err-steps.result c.from_residual-in_err-steps.ensures.1 in
    let top = part_got _ (sym c.in_ok-top.was ∙ c.read_header.ensures) in
    let steps = list_refused _ (sym c.in_err-steps.was ∙ rw (c.step_columns.ensures) at c.find_list.ensures) in
    rw (exit.1, exit.2, top, steps)

pub returns-in_err-pushes : goal.returns-in_err-pushes
unfolding parts_at
returns-in_err-pushes c =
    let exit = err_from_is_err_and c.from_residual-in_err-pushes.result c.from_residual-in_err-pushes.ensures.1 in
    let top = part_got _ (sym c.in_ok-top.was ∙ c.read_header.ensures) in
    let (steps, steps_found, steps_many) = list_found _ (sym c.in_ok-steps.was ∙ rw (c.step_columns.ensures) at c.find_list.ensures) in
    let pushes = list_refused _ (sym c.in_err-pushes.was ∙ rw (c.push_columns.ensures) at c.find_list-2.ensures) in
    rw (exit.1, exit.2, top, steps_found, pushes)

pub returns-in_err-pops : goal.returns-in_err-pops
unfolding parts_at
returns-in_err-pops c =
    let exit = err_from_is_err_and c.from_residual-in_err-pops.result c.from_residual-in_err-pops.ensures.1 in
    let top = part_got _ (sym c.in_ok-top.was ∙ c.read_header.ensures) in
    let (steps, steps_found, steps_many) = list_found _ (sym c.in_ok-steps.was ∙ rw (c.step_columns.ensures) at c.find_list.ensures) in
    let (pushes, pushes_found, pushes_many) = list_found _ (sym c.in_ok-pushes.was ∙ rw (c.push_columns.ensures) at c.find_list-2.ensures) in
    let pops = list_refused _ (sym c.in_err-pops.was ∙ rw (c.pop_columns.ensures) at c.find_list-3.ensures) in
    rw (exit.1, exit.2, top, steps_found, pushes_found, pops)

pub returns-in_err-errors : goal.returns-in_err-errors
unfolding parts_at
returns-in_err-errors c =
    let exit = err_from_is_err_and c.from_residual-in_err-errors.result c.from_residual-in_err-errors.ensures.1 in
    let top = part_got _ (sym c.in_ok-top.was ∙ c.read_header.ensures) in
    let (steps, steps_found, steps_many) = list_found _ (sym c.in_ok-steps.was ∙ rw (c.step_columns.ensures) at c.find_list.ensures) in
    let (pushes, pushes_found, pushes_many) = list_found _ (sym c.in_ok-pushes.was ∙ rw (c.push_columns.ensures) at c.find_list-2.ensures) in
    let (pops, pops_found, pops_many) = list_found _ (sym c.in_ok-pops.was ∙ rw (c.pop_columns.ensures) at c.find_list-3.ensures) in
    let errors = list_refused _ (sym c.in_err-errors.was ∙ rw (c.error_columns.ensures) at c.find_list-4.ensures) in
    rw (exit.1, exit.2, top, steps_found, pushes_found, pops_found, errors)

pub returns-in_err-end_after : goal.returns-in_err-end_after
unfolding parts_at
returns-in_err-end_after c =
    let exit = err_from_is_err_and c.from_residual-in_err-end_after.result c.from_residual-in_err-end_after.ensures.1 in
    let top = part_got _ (sym c.in_ok-top.was ∙ c.read_header.ensures) in
    let (steps, steps_found, steps_many) = list_found _ (sym c.in_ok-steps.was ∙ rw (c.step_columns.ensures) at c.find_list.ensures) in
    let (pushes, pushes_found, pushes_many) = list_found _ (sym c.in_ok-pushes.was ∙ rw (c.push_columns.ensures) at c.find_list-2.ensures) in
    let (pops, pops_found, pops_many) = list_found _ (sym c.in_ok-pops.was ∙ rw (c.pop_columns.ensures) at c.find_list-3.ensures) in
    let (errors, errors_found, errors_many) = list_found _ (sym c.in_ok-errors.was ∙ rw (c.error_columns.ensures) at c.find_list-4.ensures) in
    let more = end_refused _ _ (sym c.end_after.ensures ∙ c.in_err-end_after.was) in
    rw (exit.1, exit.2, top, steps_found, pushes_found, pops_found, errors_found, goes_on_for (tt {0}) _ _ _ more)

pub returns : goal.returns
unfolding parts_at
returns c =
    let top = part_got _ (sym c.in_ok-top.was ∙ c.read_header.ensures) in
    let (steps, steps_found, steps_many) = list_found _ (sym c.in_ok-steps.was ∙ rw (c.step_columns.ensures) at c.find_list.ensures) in
    let (pushes, pushes_found, pushes_many) = list_found _ (sym c.in_ok-pushes.was ∙ rw (c.push_columns.ensures) at c.find_list-2.ensures) in
    let (pops, pops_found, pops_many) = list_found _ (sym c.in_ok-pops.was ∙ rw (c.pop_columns.ensures) at c.find_list-3.ensures) in
    let (errors, errors_found, errors_many) = list_found _ (sym c.in_ok-errors.was ∙ rw (c.error_columns.ensures) at c.find_list-4.ensures) in
    let (_, ended) = end_past _ _ (sym c.end_after.ensures ∙ c.in_ok-end_after.was) in
    rw (top, steps_found, pushes_found, pops_found, errors_found, ends_for (tt {0}) _ _ _ ended, steps_many, pushes_many, pops_many, errors_many)
