-- A mark is looked for at each pair from which a P fact ends at g, l. Each position that is looked at lies in the part of the P facts.
use mathlib.Core.Path.{◌≡◌, ap, subst, ◌∙◌}
use Prim.Native.Nat.{◌+◌, ◌*◌, ◌<◌}
use native.Mathlib.Omega.{arith}
use Rattle.std.proofs.Common.{rules}
use Rattle.std.proofs.lemmas.Iterator.{serves_from_Range, cases_from_any, YieldsList-from_range}
use Rattle.positions.specs.Plans.{Plan, Planned, p_at}
use Rattle.positions.proofs.Places.{p_line, parts}
use Rattle.store.specs.Marking.{room, Has}
use Rattle.reaching.proofs.Reaching.{some_reached}
use Rattle.reaching.proofs.reach.Facts.reached.Goals as goal

pub any-requires-clause-callable : goal.any-requires-clause-callable
any-requires-clause-callable c =
    let a = c.args in
    let s = a.self.now.plan in
    let k = c.plan.inside.k in
    let h = subst Planned c.plan.view_is c.plan.invariant in
    let same : k ≡ s.k = ap (λ (s : Plan). s.k) c.plan.view_is in
    serves_from_Range (λ x q k. search rules)
    (λ x lo hi.
    let jl : x < s.k = omega arith in
    let line = p_line h c.requires.0 c.pair.ensures.1 jl in
    let at : c.p_at-x.result + x * k < room a.self.now.mem.now = rw same (omega (arith, line, parts h, a.self.now.enough, c.p_at-x.ensures)) in
    search (rules, at))

pub returns : goal.returns
returns c =
    let m = c.args.self.now.mem.now in
    let k = c.plan.inside.k in
    let x = c.p_at-x.result in
    let same = ap (λ (s : Plan). s.k) c.plan.view_is in
    let s = c.args.self.now.plan in
    let at_x = c.p_at-x.ensures ∙ ap (p_at s c.args.t) c.pair.ensures.0 in
    some_reached s m c.args.g c.args.t at_x same c.requires.2 c.any.result
    (cases_from_any _ _ _ (λ j. Has m (x + j * k)) (λ j. ¬ Has m (x + j * k)) c.any.ensures.ran (YieldsList-from_range 0 k k (cc) (omega arith))
    (λ x q k. search rules) (λ x q k. search rules))
