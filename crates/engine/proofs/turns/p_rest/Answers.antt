-- Rules 5 and 2, one after the other.
use mathlib.Core.Path.{subst}
use Rattle.positions.specs.Plans.{Plan}
use Rattle.uses.specs.Uses.{Upto, Either}
use Rattle.uses.specs.RuleUses.{PushUses, MovedFrom}
use Rattle.uses.specs.Sweeping.{Did}
use Rattle.uses.proofs.SweepLaws.{told, did_then}
use Rattle.engine.proofs.turns.p_rest.Goals as goal

pub returns : goal.returns
returns c =
    let s = c.args.sweep.now.plan in
    let r = c.args.rows.now in
    let t = c.thread_and_pair-t.result.0 in
    let a = c.thread_and_pair-t.result.1 in
    rw (← c.thread_and_pair-t.ensures.thread.0, ← c.thread_and_pair-t.ensures.pair.0)
    (subst
    (λ x. Did (Either (PushUses s t a r.pushes.now r.counts.pushes) (Upto (MovedFrom s t x) s.g)) c.args.sweep.now c.guarantees.new.sweep)
    c.p_from.ensures.0
    (did_then c.rows_of.ensures (told c.rows_of.ensures.kept (λ (p : Plan). Upto (MovedFrom p t c.p_from.result) p.g) c.guarantees.ensures)))
