-- The loop's invariant: as many rows are read as turns were made, and the rest of the list stands from `next` on, after the last of them.
use Rattle.lists.proofs.ListLaws.{Finding}
use Rattle.lists.proofs.list.find_rows.Given as goal

abbrev pub invariant-loop-i : goal.invariant-loop-i
invariant-loop-i l = Finding l.count l.columns l.src l.at l.before l.next l._i
