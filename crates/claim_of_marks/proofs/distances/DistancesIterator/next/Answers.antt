-- The next mark is the next position, at its distance from the one before; or there is none, and no distance is to come.
use mathlib.Core.Path.{sym, ap, ◌∙◌}
use native.Mathlib.Omega.{arith}
use lib.ListN.{length}
use Rattle.std.proofs.Common.{rules}
use Rattle.claim_of_marks.proofs.DistanceLaws.{none_to_come, one_to_come}
use Rattle.claim_of_marks.proofs.distances.DistancesIterator.next.Goals as goal

pub returns-in_err-p-clause-steps : goal.returns-in_err-p-clause-steps
returns-in_err-p-clause-steps c =
    let d = c.self.inside in
    let none = sym c.self.view_is ∙ none_to_come d.last c.self.invariant.0 c.self.invariant.1 c.in_err-p.ensures in
    rw c.from_residual.ensures (none, none)

pub returns-clause-steps : goal.returns-clause-steps
returns-clause-steps c =
    let d = c.self.inside in
    (sym c.self.view_is ∙ one_to_come d.last c.self.invariant.0 c.self.invariant.1 c.in_ok-p.ensures, omega (arith, c.in_ok-p.ensures.here.below, d.marked.few))

pub returns-clause-goes : goal.returns-clause-goes
returns-clause-goes c =
    let d = c.self.inside in
    let taken = sym c.self.view_is ∙ one_to_come d.last c.self.invariant.0 c.self.invariant.1 c.in_ok-p.ensures in
    let fewer = ap length taken in
    search rules
