-- The stretch ends before the Q facts.
use mathlib.Core.Path.{subst, ap}
use native.Mathlib.Omega.{arith}
use Rattle.positions.specs.Plans.{Planned, p_from}
use Rattle.positions.proofs.Places.{p_stretch, parts}
use Rattle.positions.proofs.plan.Plan.p_from.Goals as goal

pub returns : goal.returns
returns c =
    let h = subst Planned c.self.view_is c.self.invariant in
    let here = ap (λ s. p_from s c.args.t c.args.a) c.self.view_is in
    (here, omega (arith, here, p_stretch h c.requires.0 c.requires.1, parts h))
