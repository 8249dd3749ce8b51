-- The first i rows are done.
use Rattle.store.specs.Reading.{row_of}
use Rattle.uses.specs.RuleUses.{OfRow}
use Rattle.uses.proofs.PassLaws.{swept_of}
use Rattle.uses.proofs.SweepLaws.{did_none, did_by, did_next}
use Rattle.passes.proofs.pushes_and_pops.rows_of.Goals as goal

pub loop-i-init : goal.loop-i-init
loop-i-init g c = did_none _

pub loop-i-preserved : goal.loop-i-preserved
loop-i-preserved g c =
    let a = c.args in
    let s = c.loop-i.sweep.plan in
    did_next (λ p i. OfRow a.t (g.R.RowRule.uses p a.t a.a) (row_of a.rows.now i)) c.loop-i.invariant
    (did_by c.row.ensures (swept_of (OfRow a.t (g.R.RowRule.uses s a.t a.a)) c.row_at.ensures c.row.ensures.swept))
