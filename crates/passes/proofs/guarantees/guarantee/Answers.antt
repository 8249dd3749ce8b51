-- Where one of the guarantees acts, a line of uses from the facts that end at their first shared store.
use mathlib.Core.Path.{refl, ap}
use Rattle.positions.specs.Plans.{Plan}
use Rattle.store.proofs.MarkLaws.{is_true, is_false}
use Rattle.uses.proofs.SweepLaws.{did_by}
use Rattle.passes.proofs.GuaranteeLaws.{moved_any, moved_nobody}
use Rattle.passes.proofs.guarantees.guarantee.Goals as goal

pub returns-then-one_acts : goal.returns-then-one_acts
returns-then-one_acts c =
    let a = c.args in
    let l_is = ap (λ (p : Plan). p.l) c.s.view_is in
    did_by c.line.ensures
    (moved_any a.sweep.now.plan a.t a.x a.from a.to (is_true _ c.one_acts.ensures c.if-one_acts.true) (rw l_is at c.line.ensures.swept))

pub returns-else-one_acts : goal.returns-else-one_acts
returns-else-one_acts c =
    let a = c.args in
    record {
      kept = record { name = refl; plan = refl; put = refl };
      swept = moved_nobody a.sweep.now.plan a.t a.x a.from a.to _ (is_false _ c.one_acts.ensures c.if-one_acts.false);
    }
