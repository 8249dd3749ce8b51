-- Each thread before t is in its smallest store for its cell.
use Rattle.verdict.proofs.Progress.{Choosing}
use Rattle.verdict.proofs.search.smallest.Given as goal

abbrev pub invariant-loop-t : goal.invariant-loop-t
invariant-loop-t l =
    Choosing l.facts.plan l.errors.failed l.errors.rows.now l.errors.n l.facts.mem.now l.row l.u l.g l.locals l.t
