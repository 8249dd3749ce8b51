-- `files::header::read_header` meets its contract: what it reads, part by part, is what the definition reads.
use mathlib.Core.Path.{sym, ◌∙◌}
use Rattle.std.proofs.lemmas.Result.{err_from_is_err_and}
use Rattle.numbers.proofs.ReadingLaws.{part_got, part_bad}
use Rattle.files.specs.Header.{header_at}
use Rattle.files.proofs.header.read_header.Goals as goal

pub returns-in_err-version : goal.returns-in_err-version
unfolding header_at
returns-in_err-version c =
    let exit = err_from_is_err_and c.from_residual.result c.from_residual.ensures.1 in
    rw (exit.1, exit.2, part_bad _ (sym c.in_err-version.was ∙ c.version.ensures))

pub returns-in_err-first : goal.returns-in_err-first
unfolding header_at
returns-in_err-first c =
    let exit = err_from_is_err_and c.from_residual-in_err-first.result c.from_residual-in_err-first.ensures.1 in
    let version = part_got _ (sym c.in_ok-version.was ∙ c.version.ensures) in
    let first = part_bad _ (sym c.in_err-first.was ∙ rw (c.size_columns.ensures) at c.row_after.ensures) in
    rw (exit.1, exit.2, version, first)

pub returns-in_err-second : goal.returns-in_err-second
unfolding header_at
returns-in_err-second c =
    let exit = err_from_is_err_and c.from_residual-in_err-second.result c.from_residual-in_err-second.ensures.1 in
    let version = part_got _ (sym c.in_ok-version.was ∙ c.version.ensures) in
    let first = part_got _ (sym c.in_ok-first.was ∙ rw (c.size_columns.ensures) at c.row_after.ensures) in
    let second = part_bad _ (sym c.in_err-second.was ∙ rw (c.place_columns.ensures, c.sizes_of-sizes.ensures) at c.row_after-2.ensures) in
    rw (exit.1, exit.2, version, first, second)

pub returns-in_err-third : goal.returns-in_err-third
unfolding header_at
returns-in_err-third c =
    let exit = err_from_is_err_and c.from_residual-in_err-third.result c.from_residual-in_err-third.ensures.1 in
    let version = part_got _ (sym c.in_ok-version.was ∙ c.version.ensures) in
    let first = part_got _ (sym c.in_ok-first.was ∙ rw (c.size_columns.ensures) at c.row_after.ensures) in
    let second = part_got _ (sym c.in_ok-second.was ∙ rw (c.place_columns.ensures, c.sizes_of-sizes.ensures) at c.row_after-2.ensures) in
    let third = part_bad _ (sym c.in_err-third.was ∙ rw (c.local_columns.ensures, c.sizes_of-sizes.ensures) at c.row_after-3.ensures) in
    rw (exit.1, exit.2, version, first, second, third)

pub returns : goal.returns
unfolding header_at
returns c =
    let version = part_got _ (sym c.in_ok-version.was ∙ c.version.ensures) in
    let first = part_got _ (sym c.in_ok-first.was ∙ rw (c.size_columns.ensures) at c.row_after.ensures) in
    let second = part_got _ (sym c.in_ok-second.was ∙ rw (c.place_columns.ensures, c.sizes_of-sizes.ensures) at c.row_after-2.ensures) in
    let third = part_got _ (sym c.in_ok-third.was ∙ rw (c.local_columns.ensures, c.sizes_of-sizes.ensures) at c.row_after-3.ensures) in
    rw (c.sizes_of-sizes.ensures, version, first, second, third)
