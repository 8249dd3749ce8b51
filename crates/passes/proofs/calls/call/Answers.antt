-- With the Q fact's mark, a line of uses from the P facts that lead from where it ends.
use mathlib.Core.Path.{refl, ap}
use Prim.Native.Nat.{◌+◌}
use Rattle.positions.specs.Plans.{Plan, p_from}
use Rattle.store.proofs.MarkLaws.{is_true, is_false}
use Rattle.uses.proofs.PassLaws.{swept_with, swept_without, flat_line, line_at}
use Rattle.uses.proofs.SweepLaws.{did_by}
use Rattle.passes.proofs.calls.call.Goals as goal

pub returns-then-has : goal.returns-then-has
returns-then-has c =
    let a = c.args in
    let s = a.sweep.now.plan in
    let k_is = ap (λ (p : Plan). p.k) c.s.view_is in
    did_by c.line.ensures
    (swept_with (flat_line (p_from s a.t a.b) a.y s.k) (a.y + a.b) (is_true _ c.has.ensures c.if-has.true)
    (line_at c.p_from.ensures.0 refl k_is c.line.ensures.swept))

pub returns-else-has : goal.returns-else-has
returns-else-has c =
    let a = c.args in
    let s = a.sweep.now.plan in
    record {
      kept = record { name = refl; plan = refl; put = refl };
      swept = swept_without (flat_line (p_from s a.t a.b) a.y s.k) (a.y + a.b) _ (is_false _ c.has.ensures c.if-has.false);
    }
