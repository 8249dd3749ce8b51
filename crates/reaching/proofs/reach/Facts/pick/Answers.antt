-- No thread before t has k for its smallest store, and `last` is the last of them that reaches k.
use mathlib.Core.Path.{ap}
use native.Mathlib.Omega.{arith}
use Rattle.positions.specs.Plans.{Plan}
use Rattle.store.proofs.MarkLaws.{is_true, is_false}
use Rattle.reaching.proofs.Numbers.{picking_none, picking_reached, picking_passed, picked_first, picked_last}
use Rattle.reaching.proofs.Reaching.{smallest_is}
use Rattle.reaching.proofs.reach.Facts.pick.Goals as goal
use Rattle.reaching.proofs.reach.Facts.pick.Goals.{then-reached+else-eq, else-reached}

pub loop-t-init : goal.loop-t-init
loop-t-init c = picking_none

pub returns-then-eq : goal.returns-then-eq
returns-then-eq c =
    let threads = ap (λ (s : Plan). s.n) c.plan.view_is in
    picked_first c.loop-t.invariant _ (omega arith)
    (is_true _ (smallest_is _ _ _ c.least.result c.least.ensures c.eq.result c.eq.ensures) c.if-eq.true)

pub loop-t-preserved : goal.loop-t-preserved
loop-t-preserved c =
    elim c.if-reached.branch [
      | then-reached+else-eq w ↦
          rw w.last-is
          (picking_reached c.loop-t.invariant w.if-reached.ensures
          (is_false _ (smallest_is _ _ _ w.least.result w.least.ensures w.eq.result w.eq.ensures) w.if-eq.false))
      | else-reached w ↦ rw w.last-is (picking_passed c.loop-t.invariant w.if-reached.ensures)
    ]

pub returns : goal.returns
returns c =
    let threads = ap (λ (s : Plan). s.n) c.plan.view_is in
    picked_last c.loop-t.invariant _ (omega arith)
