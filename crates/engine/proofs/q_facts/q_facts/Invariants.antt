-- The stretches that are counted before i are done.
use Rattle.uses.specs.Uses.{Upto}
use Rattle.uses.specs.Sweeping.{Did}
use Rattle.uses.specs.AllUses.{QStretches}
use Rattle.engine.proofs.q_facts.q_facts.Given as goal

abbrev pub invariant-loop-i : goal.invariant-loop-i
invariant-loop-i l = Did (Upto (QStretches l.fn.sweep.plan l.rows.counts l.rows.pops.now) l.i) l.fn.sweep l.sweep
