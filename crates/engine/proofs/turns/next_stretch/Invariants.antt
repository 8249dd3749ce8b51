-- No stretch from i up to this one has a mark.
use Rattle.engine.specs.Turns.{NoneBetween}
use Rattle.engine.proofs.turns.next_stretch.Given as goal

abbrev pub invariant-loop-stretch : goal.invariant-loop-stretch
invariant-loop-stretch l = NoneBetween l.sweep.plan.p l.sweep.plan.k l.sweep.mem.now l.i l.stretch
