-- What is found says whether there is a mark among the first j places.
use Rattle.store.specs.Marking.{SomeIn, Is}
use Rattle.store.proofs.marks.some.Given as goal

abbrev pub invariant-loop-j : goal.invariant-loop-j
invariant-loop-j l = Is (SomeIn l.mem l.x l.j) l.found
