-- The rule, if the row is the thread's.
use mathlib.Core.Path.{refl, sym, ◌∙◌}
use Rattle.uses.proofs.PassLaws.{swept_under, swept_never}
use Rattle.uses.proofs.SweepLaws.{did_by}
use Rattle.steps.proofs.step_row.Goals as goal

pub returns-then-from-t : goal.returns-then-from-t
returns-then-from-t c = did_by c.step.ensures (swept_under (sym c.from.ensures ∙ c.if-from-t.true) c.step.ensures.swept)

pub returns-else-from-t : goal.returns-else-from-t
returns-else-from-t c = record { kept = record { name = refl; plan = refl; put = refl }; swept = swept_never _ (λ e. c.if-from-t.false (c.from.ensures ∙ e)) }
