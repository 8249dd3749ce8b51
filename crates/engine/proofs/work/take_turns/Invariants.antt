-- At the head of a turn `Next` holds, which the contracts of the functions that it calls hand on. The measure falls with each turn.
use Rattle.uses.specs.Sweeping.{Kept}
use Rattle.engine.specs.Turns.{turns_left, Next}
use Rattle.engine.proofs.work.take_turns.Given as goal

abbrev pub invariant-loop-next : goal.invariant-loop-next
invariant-loop-next l = record {
  kept : Kept l.fn.sweep l.sweep;
  next :
      Next l.fn.sweep.plan l.rows.counts l.rows.steps.now l.rows.pushes.now l.rows.pops.now l.fn.sweep.put l.fn.sweep.pass l.next l.sweep.pass
      l.fn.sweep.mem.now l.sweep.mem.now;
}

abbrev pub decreases-loop-next : goal.decreases-loop-next
decreases-loop-next l = turns_left l.fn.sweep.plan l.next l.sweep.pass.left
