-- The loop's invariant: i rows stand in memory, and the rest of the list stands from `next` on. Since the list is found, so is each row.
use Rattle.lists.proofs.KeepLaws.{Keeping}
use Rattle.lists.proofs.list.keep_rows.Given as goal

abbrev pub invariant-loop-i : goal.invariant-loop-i
invariant-loop-i l = Keeping l.count l.columns l.src l.at l.initial.dst l.dst l.next l.i
