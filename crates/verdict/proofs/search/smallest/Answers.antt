-- Each thread before t is in its smallest store for its cell. Where the row is aimed at no thread, or a thread has no store for its cell, the row
-- allows no error at g.
use mathlib.Core.Path.{ap}
use native.Mathlib.Omega.{arith}
use Rattle.positions.specs.Plans.{Plan}
use Rattle.verdict.proofs.OneRow.{aimed_at, unaimed_none, stuck_none}
use Rattle.verdict.proofs.Progress.{choosing_none, choosing_next, choosing_found}
use Rattle.verdict.proofs.search.smallest.Goals as goal

pub returns-in_err-u : goal.returns-in_err-u
returns-in_err-u c = λ T of. rw c.from_residual.ensures (unaimed_none of c.in_err-u.ensures)

pub loop-t-init : goal.loop-t-init
loop-t-init c = choosing_none

pub returns-in_err-locals : goal.returns-in_err-locals
returns-in_err-locals c =
    let threads = ap (λ (s : Plan). s.n) c.plan.view_is in
    λ T of.
    rw c.from_residual-in_err-locals.ensures
    (stuck_none of (aimed_at of c.requires.1 c.requires.2 c.in_ok-u.ensures) c.loop-t.t (omega arith)
    (rw c.cell_of-cell.ensures at c.in_err-locals.ensures))

pub loop-t-preserved : goal.loop-t-preserved
loop-t-preserved c =
    choosing_next c.loop-t.invariant c.cell_of-cell.ensures c.in_ok-locals.ensures.1 (omega (arith, c.plan.invariant.n_max))

pub returns : goal.returns
returns c =
    let threads = ap (λ (s : Plan). s.n) c.plan.view_is in
    λ T of. choosing_found c.loop-t.invariant (aimed_at of c.requires.1 c.requires.2 c.in_ok-u.ensures) (omega arith) of
