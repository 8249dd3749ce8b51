-- The stretches end with the memory.
use mathlib.Core.Path.{subst, ap}
use native.Mathlib.Omega.{arith}
use Rattle.positions.specs.Plans.{Planned, q_from}
use Rattle.positions.proofs.Places.{q_stretches}
use Rattle.positions.proofs.plan.Plan.q_from.Goals as goal

pub returns : goal.returns
returns c =
    let h = subst Planned c.self.view_is c.self.invariant in
    let here = ap (λ s. q_from s c.args.t c.args.a) c.self.view_is in
    (here, omega (arith, here, q_stretches h c.requires.0 c.requires.1))
