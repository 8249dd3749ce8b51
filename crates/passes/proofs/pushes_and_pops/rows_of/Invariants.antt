-- The first i rows are done.
use Rattle.store.specs.Reading.{row_of}
use Rattle.uses.specs.Sweeping.{Did}
use Rattle.uses.specs.RuleUses.{OfRows}
use Rattle.passes.proofs.pushes_and_pops.rows_of.Given as goal

abbrev pub invariant-loop-i : goal.invariant-loop-i
invariant-loop-i g l = Did (OfRows l.t (g.R.RowRule.uses l.fn.sweep.plan l.t l.a) (row_of l.rows) l.i) l.fn.sweep l.sweep
