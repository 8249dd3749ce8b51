-- The loop's invariant: no mark at or past `from` stands before p.
use Rattle.store.proofs.NextLaws.{Passed}
use Rattle.store.proofs.marks.next_mark.Given as goal

abbrev pub invariant-loop-p : goal.invariant-loop-p
invariant-loop-p l = Passed l.mem l.from l.p
