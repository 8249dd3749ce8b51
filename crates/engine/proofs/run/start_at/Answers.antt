-- The start fact leads from its pair to the same pair, so it stands in the part of the P facts, and its numbers are small.
use mathlib.Core.Path.{◌≡◌, sym, subst}
use Prim.Native.Nat.{◌+◌, ◌*◌, ◌<◌}
use native.Mathlib.Omega.{arith}
use Rattle.std.proofs.Common.{rules}
use Rattle.positions.specs.Plans.{Plan, Planned}
use Rattle.positions.proofs.Places.{p_line, parts}
use Rattle.engine.specs.StartFacts.{start_at}
use Rattle.engine.proofs.run.start_at.Goals as goal

pub returns : goal.returns
returns c =
    let a = c.args in
    let h = subst Planned c.s.view_is c.s.invariant in
    let d = c.pair-c.ensures.1 in
    let place : c.p_at.result + c.pair-c.result * c.s.inside.k ≡ start_at a.s a.g a.locals.now a.t = search rules in (
      place,
      subst (λ (p : Plan). c.p_at.result + c.pair-c.result * p.k < a.s.w) (sym c.s.view_is)
          (omega (arith, c.p_at.ensures, p_line h c.requires.1 d d, parts h)),
    )
