-- Without frames nothing is done. Else the stretches that are counted before i are done.
use mathlib.Core.Path.{sym, subst, ap, ◌∙◌}
use Rattle.std.proofs.Common.{rules}
use Rattle.positions.specs.Plans.{Plan, Planned}
use Rattle.uses.specs.AllUses.{QStretches}
use Rattle.uses.proofs.SweepLaws.{kept_none, did_none, did_next, did_spent}
use Rattle.engine.proofs.EmptyStretches.{no_frames}
use Rattle.engine.proofs.q_facts.q_facts.Goals as goal

pub returns-then-s-eq0 : goal.returns-then-s-eq0
returns-then-s-eq0 c =
    let h = subst Planned c.s.view_is c.s.invariant in
    let none = ap (λ (p : Plan). p.f) (sym c.s.view_is) ∙ c.if-s-eq0.true in
    record { kept = kept_none; swept = no_frames c.args.sweep.now.mem.now h c.args.rows.now.counts c.requires none _ }

pub loop-i-init : goal.loop-i-init
loop-i-init c = did_none _

pub returns-then-sweep-eq0 : goal.returns-then-sweep-eq0
returns-then-sweep-eq0 c = did_spent _ (search rules) c.if-sweep-eq0.true c.loop-i.invariant

pub loop-i-preserved : goal.loop-i-preserved
loop-i-preserved c =
    let r = c.args.rows.now in did_next (λ p. QStretches p r.counts r.pops.now) c.loop-i.invariant c.q_stretches.ensures
