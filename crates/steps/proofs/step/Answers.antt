-- Two uses of the P fact that ends at the row's place. Their ends are where the plan says.
use mathlib.Core.Path.{◌≡◌}
use Prim.Native.Nat.{◌+◌}
use Rattle.std.proofs.Common.{rules}
use Rattle.positions.specs.Plans.{pair, p_from, g_at}
use Rattle.uses.specs.RuleUses.{place_of}
use Rattle.uses.proofs.PassLaws.{one_at}
use Rattle.uses.proofs.SweepLaws.{did_then, did_by}
use Rattle.steps.proofs.step.Goals as goal

pub returns : goal.returns
returns c =
    let a = c.args in
    let s = a.sweep.now.plan in
    let x_is : c.p_position-x.result ≡ place_of s a.t a.a a.r = search rules in
    let y_is : c.p_position-y.result ≡ p_from s a.t a.a + pair s a.r.u a.r.v = search rules in
    let z_is : c.g_position-z.result ≡ g_at s a.t a.r.g a.r.u = search rules in
    did_then (did_by c.one.ensures (one_at x_is y_is c.one.ensures.swept)) (did_by c.one-2.ensures (one_at x_is z_is c.one-2.ensures.swept))
