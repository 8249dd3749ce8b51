-- A memory of W bytes has room for each fact.
use native.Mathlib.Omega.{arith}
use Rattle.check_call.proofs.Outcomes.{w_by}
use Rattle.check_call.proofs.stored.StoredTable.facts.Goals as goal

pub invariant_of-result : goal.invariant_of-result
invariant_of-result c =
    let (T, st, room) = c.requires in
    record { enough = omega (arith, room, w_by T (c.plan.ensures T st)) }
