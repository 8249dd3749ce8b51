-- `claim_reader::reading::read_claim` meets its contract: the count, the positions and the end.
use mathlib.Core.Path.{sym, ap, ◌∙◌}
use Rattle.std.proofs.lemmas.Result.{err_from_is_err_and}
use Rattle.numbers.proofs.ReadingLaws.{part_got, part_bad}
use Rattle.reader.proofs.EndLaws.{end_past, end_refused}
use Rattle.claim_reader.specs.ClaimAnswers.{claimed_of}
use Rattle.claim_reader.proofs.ClaimLaws.{claim_counted, claim_uncounted, rest_read, rest_more, rest_refused}
use Rattle.claim_reader.proofs.reading.read_claim.Goals as goal

pub returns-in_err-count : goal.returns-in_err-count
returns-in_err-count c =
    let exit = err_from_is_err_and c.from_residual.result c.from_residual.ensures.1 in
    rw (exit.1, exit.2) (sym (ap claimed_of (claim_uncounted _ _ (part_bad _ (sym c.in_err-count.was ∙ c.count.ensures)))))

pub returns-in_err-end : goal.returns-in_err-end
returns-in_err-end c =
    let exit = err_from_is_err_and c.from_residual-in_err-end.result c.from_residual-in_err-end.ensures.1 in
    let count = part_got _ (sym c.in_ok-count.was ∙ c.count.ensures) in
    let positions = end_refused _ _ (sym c.positions.ensures ∙ c.in_err-end.was) in
    rw (exit.1, exit.2) (sym (ap claimed_of (claim_counted _ _ count ∙ rest_refused _ _ _ _ positions)))

pub returns-in_err-end_after : goal.returns-in_err-end_after
returns-in_err-end_after c =
    let exit = err_from_is_err_and c.from_residual-in_err-end_after.result c.from_residual-in_err-end_after.ensures.1 in
    let count = part_got _ (sym c.in_ok-count.was ∙ c.count.ensures) in
    let positions = (end_past _ _ (sym c.positions.ensures ∙ c.in_ok-end.was)).1 in
    let more = end_refused _ _ (sym c.end_after.ensures ∙ c.in_err-end_after.was) in
    rw (exit.1, exit.2) (sym (ap claimed_of (claim_counted _ _ count ∙ rest_more _ _ _ _ positions more)))

pub returns : goal.returns
returns c =
    let count = part_got _ (sym c.in_ok-count.was ∙ c.count.ensures) in
    let positions = (end_past _ _ (sym c.positions.ensures ∙ c.in_ok-end.was)).1 in
    let ended = (end_past _ _ (sym c.end_after.ensures ∙ c.in_ok-end_after.was)).1 in
    rest_read _ _ _ _ positions ended ∙ sym (ap claimed_of (claim_counted _ _ count))
