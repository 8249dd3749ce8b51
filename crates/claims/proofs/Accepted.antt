-- What it means that a claim is accepted: the table is sound, the claimed facts are a closed set with the start facts and allow no error, so no
-- run of the table meets an error state. And where the verdict on a table is "possible", no claim for it is accepted.
--     accepted_claim                                             the claim was read
--     accepted_sound, _closed, _safe, _counts, accepted_runs     what holds of them
--     possible_never_accepted, check_possible_never_accepted     by the verdict, and by the check's answer
--     check_safe_runs                                            what it means that the check says "safe"
--     closed_and_safe_accepted                                   and each claim of a closed set with the start facts that allows no error is accepted
use mathlib.Core.Path.{◌≡◌, refl, subst⁻¹}
use mathlib.Core.Option.{some}
use mathlib.Core.List.{List}
use Prim.Native.Nat.{ℕ}
use lib.ListN.{length}
use Rattle.numbers.specs.Reading.{got}
use Rattle.files.specs.Table.{Table, Sound, W}
use Rattle.files.specs.File.{table_at}
use Rattle.files.proofs.TableLaws.{table_sound}
use Rattle.model.specs.Rules.{Derives, ClosedWithStarts}
use Rattle.model.specs.Runs.{State, Run}
use Rattle.model.specs.Errors.{Witness, Safe, ErrorState}
use Rattle.model.specs.Verdict.{Verdict}
use Rattle.model.specs.Memory.{CountOf}
use Rattle.model.specs.Claims.{Claimed, whole}
use Rattle.model.proofs.AcceptedMeansSafe as model
use Rattle.verdict.specs.declared.search.Witness as told
use Rattle.verdict.specs.declared.search.Verdict.TheVariants as judged
use Rattle.verdict.specs.declared.search.Verdict.TheVariants.{Possible}
use Rattle.check_call.specs.Answer.{Done}
use Rattle.check_call.specs.Checking as checking
use Rattle.check_call.specs.Checking.{Checked, read, done}
use Rattle.check_call.proofs.Unique.{was_read}
use Rattle.claim_reader.specs.ClaimFile.{claim_at}
use Rattle.claim_reader.proofs.ClaimIsModel.{claim_counts}
use Rattle.claim_check_call.specs.ClaimAnswer.{Accepted}
use Rattle.claim_check_call.specs.ClaimChecking as claims
use Rattle.claim_check_call.specs.ClaimChecking.{Accepts, OfPositions, AgainstTable, claim_read, ClaimChecked}
use Rattle.claim_check_call.proofs.ClaimCases.{table_was_read, claim_was_read, answer_by_finding}
use Rattle.claims.specs.Owed.{IsAccepted}

-- ---- what was read

-- the claim was read, its count is the value, and it is accepted
pub record AcceptedClaim (T : Table) (c m : List ℕ) (count : ℕ) (m' : List ℕ) : Type 0 where
  pub positions : List ℕ
  pub next : ℕ
  pub reads : claim_at (W T) c ≡ got positions next
  pub counted : count ≡ length positions
  pub accepts : Accepts T positions m m'

accepted_positions : {T : Table} {ps m m' : List ℕ} {count : ℕ} → OfPositions T ps m (Accepted count) m' → (count ≡ length ps) × Accepts T ps m m'
accepted_positions (claims.done a) = (refl, a)

accepted_file : {T : Table} {c m m' : List ℕ} {count : ℕ} → AgainstTable T c m (Accepted count) m' → AcceptedClaim T c m count m'
accepted_file (claim_read {ps} {next} h e o) =
    let (k, a) = accepted_positions o in
    record { positions = ps; next = next; reads = e; counted = k; accepts = a }

module _ {s c m m' : List ℕ} {count : ℕ} where
  module _ {T : Table} {n : ℕ} (e : table_at s ≡ got T n) (h : ClaimChecked s c m (Accepted count) m') where
    pub accepted_claim : AcceptedClaim T c m count m'
    accepted_claim = accepted_file (table_was_read e h)

    -- ---- what holds of them

    pub accepted_sound : Sound T
    accepted_sound = table_sound s T n e

    pub accepted_closed : ClosedWithStarts T (Claimed T accepted_claim.positions)
    accepted_closed = elim accepted_claim.accepts.found [ whole both safe ↦ both ]

    pub accepted_safe : Safe T (Claimed T accepted_claim.positions)
    accepted_safe = elim accepted_claim.accepts.found [ whole both safe ↦ safe ]

    -- the count is the number of the claimed facts
    pub accepted_counts : CountOf T (Claimed T accepted_claim.positions) count
    accepted_counts =
        let a = accepted_claim in
        subst⁻¹ (CountOf T (Claimed T a.positions)) a.counted (claim_counts accepted_sound refl c a.positions a.next a.reads)

    -- no run of the table meets an error state
    pub accepted_runs : {x : State} → Run T x → ¬ ErrorState T x
    accepted_runs = model.accepted_runs accepted_sound accepted_claim.accepts.found

-- ---- the verdict

module _ {s c m m' : List ℕ} {count : ℕ} where
  pub possible_never_accepted : {T : Table} {n : ℕ} {w : Witness} → table_at s ≡ got T n → Verdict T (Derives T) (some w)
      → ¬ ClaimChecked s c m (Accepted count) m'
  possible_never_accepted e v h = model.possible_never_accepted v (accepted_claim e h).accepts.found

  pub check_possible_never_accepted : {budget facts : ℕ} {witness : told.Witness} {k k' : List ℕ}
      → Checked s budget k (Done facts (Possible witness)) k' → ¬ ClaimChecked s c m (Accepted count) m'
  check_possible_never_accepted (read e (done _ f)) = possible_never_accepted e f.judged.verdict

-- where it is "safe", no run meets an error state
pub check_safe_runs : {s k k' : List ℕ} {T : Table} {n budget facts : ℕ} → table_at s ≡ got T n → Checked s budget k (Done facts judged.Safe) k'
    → {x : State} → Run T x → ¬ ErrorState T x
check_safe_runs {s} {T = T} {n} e h = by (was_read e h)
  where
    by : {budget facts : ℕ} {k k' : List ℕ} → checking.OfTable T budget k (Done facts judged.Safe) k' → {x : State} → Run T x → ¬ ErrorState T x
    by (done _ f) = model.safe_verdict_runs (table_sound s T n e) f.judged.verdict

-- ---- which claims are accepted

pub closed_and_safe_accepted : {s c ps : List ℕ} {T : Table} {n next : ℕ} → table_at s ≡ got T n → claim_at (W T) c ≡ got ps next
    → ClosedWithStarts T (Claimed T ps) → Safe T (Claimed T ps) → IsAccepted s T c (length ps)
closed_and_safe_accepted e reads both safe m m' a room h = answer_by_finding (whole both safe) (claim_was_read room reads (table_was_read e h))
