-- If the stretch of Q facts has no mark, nothing is done; else rule 6 and then rule 3.
use mathlib.Core.Path.{◌≡◌, subst}
use Prim.Native.Nat.{◌+◌, ◌*◌}
use Rattle.std.proofs.Common.{rules}
use Rattle.store.specs.Marking.{SomeIn}
use Rattle.positions.specs.Plans.{Plan, Planned, q_from}
use Rattle.store.proofs.MarkLaws.{is_false}
use Rattle.uses.specs.Uses.{Upto, Either}
use Rattle.uses.specs.Sweeping.{Did}
use Rattle.uses.specs.RuleUses.{CallUse, MovedFrom}
use Rattle.uses.proofs.SweepLaws.{kept_none, told, did_then}
use Rattle.engine.proofs.EmptyStretches.{frame_empty}
use Rattle.engine.proofs.q_facts.frame.Goals as goal

pub returns-then-some : goal.returns-then-some
returns-then-some c =
    let a = c.args in
    let s = a.sweep.now.plan in
    let y_is : c.q_from.result + a.f * c.s.inside.k ≡ q_from s a.t a.a + a.f * s.k = search rules in
    subst (λ y. Did (Either (Upto (CallUse s a.t y) s.k) (Upto (MovedFrom s a.t y) s.g)) a.sweep.now c.guarantees.new.sweep) y_is
    (did_then c.calls.ensures (told c.calls.ensures.kept (λ (p : Plan). Upto (MovedFrom p a.t (c.q_from.result + a.f * c.s.inside.k)) p.g) c.guarantees.ensures))

pub returns-else-some : goal.returns-else-some
returns-else-some c =
    let a = c.args in
    let s = a.sweep.now.plan in
    let h = subst Planned c.s.view_is c.s.invariant in
    let m = a.sweep.now.mem.now in
    let none = subst (λ (p : Plan). SomeIn m (c.q_from.result + a.f * p.k) p.k → ⊥) c.s.view_is (is_false _ c.some.ensures c.if-some.false) in
    let empty = subst (λ y. SomeIn m (y + a.f * s.k) s.k → ⊥) c.q_from.ensures.0 none in
    record { kept = kept_none; swept = frame_empty a.sweep.now.mem.now h a.t a.a a.f _ empty }
