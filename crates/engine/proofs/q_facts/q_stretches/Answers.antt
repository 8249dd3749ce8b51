-- If the stretches have no mark, nothing is done; else rules 6 and 3 for each frame, and then rule 7.
use mathlib.Core.Path.{sym, subst}
use Prim.Native.Nat.{◌+◌, ◌*◌, ◌≤◌}
use Rattle.store.specs.Marking.{SomeIn}
use Rattle.positions.specs.Plans.{Plan, Planned}
use Rattle.store.proofs.MarkLaws.{is_false}
use Rattle.uses.specs.RuleUses.{PopUses}
use Rattle.uses.proofs.StretchNumbers.{q_room}
use Rattle.uses.proofs.SweepLaws.{kept_none, told, did_then}
use Rattle.engine.proofs.EmptyStretches.{q_stretches_empty}
use Rattle.engine.proofs.q_facts.q_stretches.Goals as goal

pub some-requires : goal.some-requires
some-requires c =
    let a = c.args in
    let h = subst Planned c.s.view_is c.s.invariant in
    subst (λ (p : Plan). p.q + a.i * (p.f * p.k) + p.f * p.k ≤ a.sweep.now.plan.w) (sym c.s.view_is) (q_room h c.requires.1)

pub rows_of-requires : goal.rows_of-requires
rows_of-requires c = rw c.frames.ensures.kept.plan (c.thread_and_pair-t.ensures.thread.1, c.thread_and_pair-t.ensures.pair.1, c.requires.0)

pub returns-then-some : goal.returns-then-some
returns-then-some c =
    let a = c.args in
    let s = a.sweep.now.plan in
    let r = a.rows.now in
    rw (← c.thread_and_pair-t.ensures.thread.0, ← c.thread_and_pair-t.ensures.pair.0)
    (did_then c.frames.ensures (told c.frames.ensures.kept (λ (p : Plan). PopUses p c.thread_and_pair-t.result.0 c.thread_and_pair-t.result.1 r.pops.now r.counts.pops) c.rows_of.ensures))

pub returns-else-some : goal.returns-else-some
returns-else-some c =
    let a = c.args in
    let m = a.sweep.now.mem.now in
    let h = subst Planned c.s.view_is c.s.invariant in
    let empty = subst (λ (p : Plan). SomeIn m (p.q + a.i * (p.f * p.k)) (p.f * p.k) → ⊥) c.s.view_is (is_false _ c.some.ensures c.if-some.false) in
    record { kept = kept_none; swept = q_stretches_empty m h a.rows.now.counts c.requires.0 c.requires.1 _ empty }
