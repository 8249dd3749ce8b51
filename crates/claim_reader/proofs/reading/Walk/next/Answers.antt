-- `claim_reader::reading::Walk::next` meets its contract: it reads the field of the distance.
use native.Mathlib.Omega.{arith}
use mathlib.Core.Path.{refl, sym, ◌∙◌}
use Rattle.std.proofs.lemmas.Result.{err_from_is_err_and}
use Rattle.numbers.proofs.ReadingLaws.{part_got, part_bad}
use Rattle.numbers.proofs.FieldLaws.{field_got}
use Rattle.claim_reader.proofs.PositionLaws.{position_far, position_bad}
use Rattle.claim_reader.proofs.reading.Walk.next.Goals as goal

pub returns-in_err-distance : goal.returns-in_err-distance
returns-in_err-distance c =
    let exit = err_from_is_err_and c.from_residual.result c.from_residual.ensures.1 in
    rw (exit.1, exit.2, position_bad _ _ _ _ _ (part_bad _ (sym c.in_err-distance.was ∙ c.field.ensures))) (refl, refl)

pub overflow_add-self : goal.overflow_add-self
overflow_add-self c = omega (arith, field_got _ _ _ _ _ _ (part_got _ (sym c.in_ok-distance.was ∙ c.field.ensures)), c.args.self.now.claim.few)

pub returns : goal.returns
returns c = rw (position_far _ _ _ _ _ (part_got _ (sym c.in_ok-distance.was ∙ c.field.ensures))) (refl, refl)
