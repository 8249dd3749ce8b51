-- What `find` answers of the threads is the first that lacks its start fact.
use mathlib.Core.Path.{ap}
use Prim.Native.Nat.{ℕ}
use Rattle.std.proofs.Common.{rules}
use Rattle.std.proofs.lemmas.Iterator.{first_from_Range}
use Rattle.positions.specs.Plans.{Plan}
use Rattle.store.specs.Marking.{Has}
use Rattle.engine.specs.StartFacts.{start_at}
use Rattle.findings.proofs.StartMarks.{started_found}
use Rattle.findings.proofs.starts.lacking_start.Goals as goal

pub returns : goal.returns
returns c =
    let a = c.args in
    let m = a.facts.now.mem.now in
    let Lacks : ℕ → Type 0 = λ t. ¬ Has m (start_at a.facts.now.plan a.g a.locals.now t) in
    λ T sound plan of.
    started_found sound plan of m (ap (λ (s : Plan). s.n) c.plan.view_is) c.find.result
    (first_from_Range _ _ _ _ Lacks (λ t. ¬ Lacks t) c.find.ensures.ran (λ x q k. search rules) (λ x q k. search rules))
