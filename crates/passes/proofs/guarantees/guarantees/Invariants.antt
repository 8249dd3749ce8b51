-- The guarantees from the first shared stores are done.
use Rattle.uses.specs.Uses.{Upto}
use Rattle.uses.specs.Sweeping.{Did}
use Rattle.uses.specs.RuleUses.{MovedFrom}
use Rattle.passes.proofs.guarantees.guarantees.Given as goal

abbrev pub invariant-loop-from : goal.invariant-loop-from
invariant-loop-from l = Did (Upto (MovedFrom l.fn.sweep.plan l.t l.x) l.from) l.fn.sweep l.sweep
