-- The start facts of the first t threads are marked.
use mathlib.Core.Path.{◌≡◌}
use Rattle.engine.specs.Starting.{begun}
use Rattle.engine.proofs.run.start.Given as goal

abbrev pub invariant-loop-t : goal.invariant-loop-t
invariant-loop-t l = l.mem ≡ begun l.s l.g l.locals l.t l.fn.mem
