-- The rows before this one are done.
use Rattle.store.specs.Reading.{nth}
use Rattle.uses.specs.Sweeping.{Did}
use Rattle.uses.specs.RuleUses.{StepUses}
use Rattle.steps.proofs.walk.Given as goal

abbrev pub invariant-loop-row : goal.invariant-loop-row
invariant-loop-row l = Did (StepUses l.fn.sweep.plan l.t l.a (nth l.rows) l.row-index) l.fn.sweep l.sweep
