-- What `find` answers of the stores below their number is the smallest choice.
use mathlib.Core.Path.{◌≡◌, ap, subst}
use native.Mathlib.Omega.{arith}
use Rattle.std.proofs.Common.{rules}
use Rattle.std.proofs.lemmas.Iterator.{first_from_Range}
use Rattle.positions.specs.Plans.{Plan}
use Rattle.reaching.specs.Reaching.{Reached, Choice, Least}
use Rattle.reaching.proofs.Numbers.{least_found}
use Rattle.reaching.proofs.reach.Facts.least.Goals as goal

pub returns : goal.returns
returns c =
    let a = c.args in
    let A = Choice (Reached a.self.now.plan a.self.now.mem.now a.g a.t) a.cell in
    let same : c.plan.inside.l ≡ a.self.now.plan.l = ap (λ (s : Plan). s.l) c.plan.view_is in
    subst (λ n. Least A n c.find.result) same
    (least_found A _ _ (λ q h. omega (arith, h.reached.l_lt))
    (first_from_Range _ _ _ _ A (λ l. ¬ A l) c.find.ensures.ran (λ x q k. search rules) (λ x q k. search rules)))
