-- The Q facts to the first b pairs are done.
use Rattle.uses.specs.RuleUses.{CallUse}
use Rattle.uses.proofs.SweepLaws.{did_none, did_next}
use Rattle.passes.proofs.calls.calls.Goals as goal

pub loop-b-init : goal.loop-b-init
loop-b-init c = did_none _

pub loop-b-preserved : goal.loop-b-preserved
loop-b-preserved c = did_next (λ s. CallUse s c.args.t c.args.y) c.loop-b.invariant c.call.ensures
