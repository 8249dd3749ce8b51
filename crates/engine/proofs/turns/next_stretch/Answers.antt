-- No stretch from i up to this one has a mark.
use mathlib.Core.Path.{sym, subst}
use Prim.Native.Nat.{◌+◌, ◌*◌, ◌≤◌}
use native.Mathlib.Omega.{arith}
use Rattle.positions.specs.Plans.{Plan, Planned}
use Rattle.positions.proofs.Places.{parts}
use Rattle.uses.proofs.StretchNumbers.{p_room}
use Rattle.engine.proofs.turns.next_stretch.Goals as goal

pub some-requires : goal.some-requires
some-requires c =
    let s = c.args.sweep.now.plan in
    let h = subst Planned c.s.view_is c.s.invariant in
    subst (λ (p : Plan). p.p + c.loop-stretch.stretch * p.k + p.k ≤ s.w) (sym c.s.view_is)
    (omega (arith, p_room h {i = c.loop-stretch.stretch} (omega (arith, c.loop-stretch-test.true, c.stretch_count-stretch-end.ensures)), parts h))

pub returns : goal.returns
returns c =
    record {
      from = c.requires;
      upto = omega arith;
      none = λ j from below. c.loop-stretch.invariant j from (omega (arith, c.stretch_count-stretch-end.ensures, below));
    }
