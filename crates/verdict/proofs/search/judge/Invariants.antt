-- What lies before row and g is passed.
use Rattle.verdict.proofs.Progress.{Passed}
use Rattle.verdict.proofs.search.judge.Given as goal

abbrev pub invariant-loop-g : goal.invariant-loop-g
invariant-loop-g l = Passed l.facts.plan l.errors.failed l.errors.rows.now l.errors.n l.facts.mem.now l.row l.g

abbrev pub invariant-loop-row : goal.invariant-loop-row
invariant-loop-row l = Passed l.facts.plan l.errors.failed l.errors.rows.now l.errors.n l.facts.mem.now l.row 0
