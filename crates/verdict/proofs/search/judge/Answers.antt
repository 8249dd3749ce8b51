-- What lies before row and g is passed.
use mathlib.Core.Path.{ap}
use native.Mathlib.Omega.{arith}
use Rattle.positions.specs.Plans.{Plan}
use Rattle.verdict.proofs.Progress.{passed_row, passed_safe, found_judged}
use Rattle.verdict.proofs.search.judge.Goals as goal

pub returns-in-Some : goal.returns-in-Some
returns-in-Some c = λ T of. found_judged c.loop-g.invariant c.in-Some.locals T of (c.in-Some.ensures T of)

pub loop-row-preserved : goal.loop-row-preserved
loop-row-preserved c =
    let shared = ap (λ (s : Plan). s.g) c.plan.view_is in
    passed_row c.loop-g.invariant (omega arith)

pub returns : goal.returns
returns c = λ T of. passed_safe c.loop-row.invariant (omega arith) T of
