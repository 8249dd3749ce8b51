-- The Q facts to the first b pairs are done.
use Rattle.uses.specs.Uses.{Upto}
use Rattle.uses.specs.Sweeping.{Did}
use Rattle.uses.specs.RuleUses.{CallUse}
use Rattle.passes.proofs.calls.calls.Given as goal

abbrev pub invariant-loop-b : goal.invariant-loop-b
invariant-loop-b l = Did (Upto (CallUse l.fn.sweep.plan l.t l.y) l.b) l.fn.sweep l.sweep
