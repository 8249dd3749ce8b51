-- Two uses of the P fact that ends at the row's place. Their ends are where the plan says.
use mathlib.Core.Path.{◌≡◌}
use Prim.Native.Nat.{◌+◌, ◌*◌}
use Rattle.std.proofs.Common.{rules}
use Rattle.positions.specs.Plans.{pair, p_from, q_from}
use Rattle.uses.specs.RuleUses.{place_of}
use Rattle.uses.proofs.PassLaws.{one_at}
use Rattle.uses.proofs.SweepLaws.{did_then, did_by}
use Rattle.passes.proofs.pushes_and_pops.PushRowRule.row.Goals as goal

pub returns : goal.returns
returns c =
    let a = c.args in
    let s = a.sweep.now.plan in
    let d = pair s a.r.g a.r.u in
    let x_is : c.p_position-x.result ≡ place_of s a.t a.a a.r = search rules in
    let y_is : c.q_position-y.result ≡ q_from s a.t a.a + a.r.v * s.k + d = search rules in
    let z_is : c.p_position-z.result ≡ p_from s a.t d + d = search rules in
    did_then (did_by c.one.ensures (one_at x_is y_is c.one.ensures.swept))
    (did_by c.one-2.ensures (one_at x_is z_is c.one-2.ensures.swept))
