-- `steps::walk` meets its contract: a turn does the next row.
use Rattle.store.specs.Reading.{nth}
use Rattle.uses.specs.RuleUses.{StepRowUse}
use Rattle.uses.proofs.SweepLaws.{did_none, did_next}
use Rattle.steps.proofs.walk.Goals as goal

pub loop-row-init : goal.loop-row-init
loop-row-init c = did_none _

pub loop-row-preserved : goal.loop-row-preserved
loop-row-preserved c =
    let a = c.args in did_next (λ p i. StepRowUse p a.t a.a (nth a.rows.now i)) c.loop-row.invariant c.step_row.ensures
