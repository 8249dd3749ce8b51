-- The first f frames are done.
use Rattle.uses.specs.Uses.{Upto}
use Rattle.uses.specs.Sweeping.{Did}
use Rattle.uses.specs.AllUses.{FrameUses}
use Rattle.engine.proofs.q_facts.frames.Given as goal

abbrev pub invariant-loop-f : goal.invariant-loop-f
invariant-loop-f l = Did (Upto (FrameUses l.fn.sweep.plan l.t l.a) l.f) l.fn.sweep l.sweep
