-- Demand 3 of the model: no run of a table for which a claim is accepted, whoever wrote it, meets an error state; the least relations, if
-- they are safe, are accepted as a claim; and if they are not, no claim is. An accepted claim is a closed set with the start facts, so the
-- least relations lie in it, and runs are held by it.
use mathlib.Core.Option.{none, some}
use mathlib.Core.List.{List}
use Prim.Native.Nat.{ℕ}
use Rattle.files.specs.Table.{Table, Sound}
use Rattle.model.specs.Rules.{Fact, Derives}
use Rattle.model.specs.Runs.{State, Run}
use Rattle.model.specs.Errors.{ErrorState, Witness}
use Rattle.model.specs.Verdict.{Verdict, safe, possible}
use Rattle.model.specs.Memory.{Relations, Marked}
use Rattle.model.specs.Claims.{accepted, Finds, whole}
use Rattle.model.proofs.Monotone.{finding_cast}
use Rattle.model.proofs.Least.{derives_closed_with_starts, least_allows}
use Rattle.model.proofs.RunsAreHeld.{safe_runs}
use Rattle.model.proofs.InRange.{derives_fits}
use Rattle.model.proofs.Memory.{marked_in, in_marked}

-- no run of the table meets an error state if a claim for it is accepted, or if the verdict on the least relations is safe
pub accepted_runs : {T : Table} → Sound T → {S : Fact → Type 0} → Finds T S accepted → {s : State} → Run T s → ¬ ErrorState T s
accepted_runs sound (whole c s) r = safe_runs sound c s r

pub safe_verdict_runs : {T : Table} → Sound T → Verdict T (Derives T) none → {s : State} → Run T s → ¬ ErrorState T s
safe_verdict_runs {T} sound (safe s) r = safe_runs sound (derives_closed_with_starts T) s r

-- if it is safe, the facts that a memory marks which holds the least relations are accepted
pub safe_accepted : {T : Table} → Sound T → {mem : List ℕ} → Relations T mem → Verdict T (Derives T) none → Finds T (Marked T mem) accepted
safe_accepted {T} sound h (safe s) =
    finding_cast (λ f d. in_marked h f (derives_fits sound f d) d) (marked_in h) (whole (derives_closed_with_starts T) s)

-- if it is possible, no claim is
pub possible_never_accepted : {T : Table} {w : Witness} → Verdict T (Derives T) (some w) → {S : Fact → Type 0} → ¬ Finds T S accepted
possible_never_accepted (possible p) (whole c s) = s _ (least_allows c _ p.allowed)
