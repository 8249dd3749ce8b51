-- The first f frames are done.
use Rattle.uses.specs.AllUses.{FrameUses}
use Rattle.uses.proofs.SweepLaws.{did_none, did_next}
use Rattle.engine.proofs.q_facts.frames.Goals as goal

pub loop-f-init : goal.loop-f-init
loop-f-init c = did_none _

pub loop-f-preserved : goal.loop-f-preserved
loop-f-preserved c = did_next (λ p. FrameUses p c.args.t c.args.a) c.loop-f.invariant c.frame.ensures
