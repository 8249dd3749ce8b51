-- The G facts stand before the others.
use mathlib.Core.Path.{subst, ap}
use native.Mathlib.Omega.{arith}
use Rattle.positions.specs.Plans.{Planned, g_at}
use Rattle.positions.proofs.Places.{g_lt, parts}
use Rattle.positions.proofs.plan.Plan.g_position.Goals as goal

pub returns : goal.returns
returns c =
    let h = subst Planned c.self.view_is c.self.invariant in
    let here = ap (λ s. g_at s c.args.t c.args.g c.args.g2) c.self.view_is in
    (here, omega (arith, here, g_lt h c.requires.0 c.requires.1 c.requires.2, parts h))
