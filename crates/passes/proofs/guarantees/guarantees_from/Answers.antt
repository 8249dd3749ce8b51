-- Where no fact of the stretch ends at their first shared store, nothing lacks; else the guarantees to the first shared stores are done.
use mathlib.Core.Path.{refl}
use Rattle.store.proofs.MarkLaws.{is_false}
use Rattle.uses.specs.RuleUses.{MovedTo}
use Rattle.uses.proofs.PassLaws.{swept_empty}
use Rattle.uses.proofs.SweepLaws.{did_none, did_next}
use Rattle.uses.proofs.Premises.{moved_from_in}
use Rattle.passes.proofs.guarantees.guarantees_from.Goals as goal

pub returns-then-not-ends_at : goal.returns-then-not-ends_at
returns-then-not-ends_at c =
    let a = c.args in
    let s = a.sweep.now in
    record {
      kept = record { name = refl; plan = refl; put = refl };
      swept =
          swept_empty _ _ (λ q z y u hq hz. moved_from_in s.mem.now s.plan a.t a.x a.from u hz) (is_false _ c.ends_at.ensures c.if-not-ends_at.true);
    }

pub loop-to-init : goal.loop-to-init
loop-to-init c = did_none _

pub loop-to-preserved : goal.loop-to-preserved
loop-to-preserved c = did_next (λ s. MovedTo s c.args.t c.args.x c.args.from) c.loop-to.invariant c.guarantee.ensures
