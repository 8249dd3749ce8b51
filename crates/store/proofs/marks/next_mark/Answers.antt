-- The loop's invariant: no mark at or past `from` stands before p.
use native.Mathlib.Omega.{arith}
use Rattle.store.proofs.MarkLaws.{is_true}
use Rattle.store.proofs.NextLaws.{next_here, next_nowhere}
use Rattle.store.proofs.marks.next_mark.Goals as goal

pub returns-then-has : goal.returns-then-has
returns-then-has c = next_here c.loop-p.invariant (omega arith) (is_true _ c.has.ensures c.if-has.true)

pub returns : goal.returns
returns c = next_nowhere c.loop-p.invariant (omega arith)
