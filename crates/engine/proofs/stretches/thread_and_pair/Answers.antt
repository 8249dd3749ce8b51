-- A thread and a pair are the digits of the number of a stretch.
use mathlib.Core.Path.{sym, subst, ap}
use Prim.Native.Nat.{◌/◌, ◌%◌, ◌<◌}
use Rattle.positions.specs.Plans.{Plan, Planned}
use Rattle.uses.proofs.StretchNumbers.{stretch_thread, stretch_pair}
use Rattle.engine.proofs.stretches.thread_and_pair.Goals as goal

pub returns-clause-thread : goal.returns-clause-thread
returns-clause-thread c =
    let h = subst Planned c.s.view_is c.s.invariant in (
      ap (λ (p : Plan). c.args.i / p.k) c.s.view_is,
      subst (λ (p : Plan). c.args.i / p.k < c.args.s.n) (sym c.s.view_is) (stretch_thread h c.requires),
    )

pub returns-clause-pair : goal.returns-clause-pair
returns-clause-pair c =
    let h = subst Planned c.s.view_is c.s.invariant in (
      ap (λ (p : Plan). c.args.i % p.k) c.s.view_is,
      subst (λ (p : Plan). c.args.i % p.k < c.args.s.k) (sym c.s.view_is) (stretch_pair h c.requires),
    )
