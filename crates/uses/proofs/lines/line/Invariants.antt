-- The first j uses are done.
use Rattle.uses.specs.Uses.{Upto, Line}
use Rattle.uses.specs.Passing.{Swept}
use Rattle.uses.proofs.lines.line.Given as goal

abbrev pub invariant-loop-j : goal.invariant-loop-j
invariant-loop-j l = Swept (Upto (Line l.x l.y) l.j) l.put l.fn.pass l.sofar l.fn.mem l.mem
