-- The plan and the lent rows are the table's, so each of the three steps answers for it, on the memory as it was lent; and a step that finds
-- nothing gives what the next takes for granted.
use mathlib.Core.Path.{subst}
use native.Mathlib.Omega.{arith}
use Rattle.model.specs.Rules.{Starts, ClosedWithStarts}
use Rattle.model.specs.Memory.{Marked}
use Rattle.model.specs.Claims.{Finds}
use Rattle.model.specs.Claims as model
use Rattle.check_call.proofs.LentRows.{stored_begins}
use Rattle.check_call.proofs.Outcomes.{w_by}
use Rattle.findings.specs.Found.{finding_of}
use Rattle.findings.proofs.FoundLaws.{closed_marked}
use Rattle.findings.proofs.find.find.Goals as goal

pub returns-in-Some-clause-found : goal.returns-in-Some-clause-found
returns-in-Some-clause-found c =
    λ T st.
    model.lacking (rw (← c.facts.ensures.same) (c.in-Some.ensures T st.sound (c.facts.ensures.plan T st) (stored_begins st c.from-start.ensures)))

pub missing-requires : goal.missing-requires
missing-requires c =
    let (T, st, room) = c.requires in
    let plan = c.plan.ensures T st in
    ((T, c.lists-lists.ensures.of_table T _ st plan), omega (arith, w_by T plan, room))

pub returns-in-Some-missing-clause-found : goal.returns-in-Some-missing-clause-found
returns-in-Some-missing-clause-found c =
    λ T st.
    let starts : Starts T (Marked T c.args.mem.now) =
    rw (← c.facts.ensures.same) (c.in_default.ensures T st.sound (c.facts.ensures.plan T st) (stored_begins st c.from-start.ensures)) in
    model.missing starts (c.in-Some-missing.ensures.found T (c.lists-lists.ensures.of_table T _ st (c.plan.ensures T st)))

pub returns-clause-found : goal.returns-clause-found
returns-clause-found c =
    λ T st.
    let starts : Starts T (Marked T c.args.mem.now) =
    rw (← c.facts.ensures.same) (c.in_default.ensures T st.sound (c.facts.ensures.plan T st) (stored_begins st c.from-start.ensures)) in
    let closed = closed_marked st.sound starts (c.in_default-missing.ensures.found T (c.lists-lists.ensures.of_table T _ st (c.plan.ensures T st))) in
    subst (λ k. ClosedWithStarts T (Marked T k) → Finds T (Marked T k) (finding_of c.find_error.result)) c.missing.ensures.kept
    (c.find_error.ensures T st) closed
