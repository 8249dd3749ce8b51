-- The guarantees from the first shared stores are done.
use Rattle.uses.specs.RuleUses.{MovedFrom}
use Rattle.uses.proofs.SweepLaws.{did_none, did_next}
use Rattle.passes.proofs.guarantees.guarantees.Goals as goal

pub loop-from-init : goal.loop-from-init
loop-from-init c = did_none _

pub loop-from-preserved : goal.loop-from-preserved
loop-from-preserved c = did_next (λ s. MovedFrom s c.args.t c.args.x) c.loop-from.invariant c.guarantees_from.ensures
