-- What is found says whether one of the first j places has a mark that its partner has not.
use Rattle.store.specs.Marking.{LacksIn, Is}
use Rattle.store.proofs.marks.lacks.Given as goal

abbrev pub invariant-loop-j : goal.invariant-loop-j
invariant-loop-j l = Is (LacksIn l.mem l.x l.y l.j) l.found
