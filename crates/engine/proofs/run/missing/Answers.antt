-- A pass over every use that looks, from w on.
use mathlib.Core.Path.{ap}
use native.Mathlib.Omega.{arith}
use Rattle.positions.specs.Plans.{Plan}
use Rattle.engine.proofs.RunLaws.{worked_looked, confirmed}
use Rattle.engine.proofs.run.missing.Goals as goal

pub returns-then-end-plan-clause-found : goal.returns-then-end-plan-clause-found
returns-then-end-plan-clause-found c =
    let w_is = ap (λ (p : Plan). p.w) c.plan.view_is in
    let looked = worked_looked c.work-end.ensures in
    λ T rows. (confirmed rows _ w_is (omega arith) looked.0).0 (omega (arith, ap (λ (p : Plan). p.w) c.plan-2.view_is, c.if-end-plan.true))

pub returns-else-end-plan-clause-found : goal.returns-else-end-plan-clause-found
returns-else-end-plan-clause-found c =
    let w_is = ap (λ (p : Plan). p.w) c.plan.view_is in
    let looked = worked_looked c.work-end.ensures in
    λ T rows. (confirmed rows _ w_is (omega arith) looked.0).1 (omega (arith, ap (λ (p : Plan). p.w) c.plan-2.view_is, c.if-end-plan.false))
