-- The loop's invariant: j cells of the row stand in memory, and the rest of the row stands from `next` on.
use Rattle.lists.proofs.RowKeeping.{Midway}
use Rattle.lists.proofs.list.keep_row.Given as goal

abbrev pub invariant-loop-j : goal.invariant-loop-j
invariant-loop-j l = Midway l.fn.columns l.src l.at l.base l.initial.dst l.dst l.next l.j
