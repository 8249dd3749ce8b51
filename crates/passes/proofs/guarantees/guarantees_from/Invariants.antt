-- The guarantees to the first shared stores are done.
use Rattle.uses.specs.Uses.{Upto}
use Rattle.uses.specs.Sweeping.{Did}
use Rattle.uses.specs.RuleUses.{MovedTo}
use Rattle.passes.proofs.guarantees.guarantees_from.Given as goal

abbrev pub invariant-loop-to : goal.invariant-loop-to
invariant-loop-to l = Did (Upto (MovedTo l.fn.sweep.plan l.t l.x l.from) l.to) l.fn.sweep l.sweep
