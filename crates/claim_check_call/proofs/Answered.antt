-- For every table's file, claim's file and memory there is an answer that the claim check's contract allows. Where both are read and there are W bytes
-- or more, there is a finding on the claimed facts; for it there is a memory, one that holds them or a cleared one.
use mathlib.Core.Path.{◌≡◌, refl}
use mathlib.Core.List.{List, ◌++◌}
use Prim.Native.Nat.{ℕ, ◌<◌}
use native.Mathlib.Decide.{dec_lt}
use native.Mathlib.Omega.{arith}
use lib.ListN.{length, drop, replicate}
use Rattle.numbers.specs.Reading.{Out, got, bad}
use Rattle.files.specs.Table.{Table, Sound, W}
use Rattle.files.specs.File.{table_at}
use Rattle.files.proofs.TableLaws.{table_sound}
use Rattle.model.specs.Claims.{Claimed, Finding, Finds, accepted, lacks_start, not_closed, allows_error}
use Rattle.model.proofs.Memory.{held_before}
use Rattle.model.proofs.DecidedSets.{decided_held}
use Rattle.model.proofs.Decide.Claims.{claimed?}
use Rattle.model.proofs.Decide.Answered.{finding_exists}
use Rattle.store.proofs.MarkLaws.{first_cleared}
use Rattle.claim_reader.specs.ClaimFile.{claim_at}
use Rattle.claim_reader.proofs.RoundTrip.{claim_ascending}
use Rattle.claim_reader.proofs.PositionsOfMarks.{ascending_below}
use Rattle.claim_check_call.specs.ClaimAnswer.{ClaimAnswer, TableRefused, Short, ClaimRefused}
use Rattle.claim_check_call.specs.Answers.{answer_of}
use Rattle.claim_check_call.specs.ClaimChecking.{
  Refuses,
  OfPositions,
  done,
  lacking,
  missing,
  allowing,
  AgainstTable,
  short,
  claim_refused,
  claim_read,
  ClaimChecked,
  table_refused,
  table_read,
}

-- ---- a claim that was read as the positions ps

module _ (T : Table) (ps m : List ℕ) where
  cleared : {x : Finding} → Finds T (Claimed T ps) x → Refuses T ps m x (replicate (W T) 0 ++ drop (W T) m)
  cleared f = record { found = f; cleared = first_cleared m (W T) refl }

  finding_answered : (x : Finding) → Finds T (Claimed T ps) x → (m' : List ℕ) × OfPositions T ps m (answer_of (length ps) x) m'
  finding_answered accepted f =
      let (mem, long, claimed) = decided_held T (claimed? T ps) in
      let (held, kept) = held_before long claimed (drop (W T) m) in
      (mem ++ drop (W T) m, done (record { found = f; facts = held; rest = kept }))
  finding_answered (lacks_start t) f = (_, lacking (cleared f))
  finding_answered (not_closed p) f = (_, missing (cleared f))
  finding_answered (allows_error row) f = (_, allowing (cleared f))

-- ---- a table that was read

module _ {T : Table} (sound : Sound T) (c m : List ℕ) where
  table_answered : (a : ClaimAnswer) × (m' : List ℕ) × AgainstTable T c m a m'
  table_answered = go (dec_lt (length m) (W T)) (claim_at (W T) c) refl
    where
      go : Dec (length m < W T) → (o : Out (List ℕ)) → claim_at (W T) c ≡ o → (a : ClaimAnswer) × (m' : List ℕ) × AgainstTable T c m a m'
      go (yes l) _ e = (Short (W T), m, short l)
      go (no l) (bad x) e = (ClaimRefused x, m, claim_refused (omega arith) e)
      go (no l) (got ps n) e =
          let (x, found) = finding_exists sound ps (ascending_below (claim_ascending (W T) c ps n e)) in
          let (m', o) = finding_answered T ps m x found in
          (answer_of (length ps) x, m', claim_read (omega arith) e o)

pub claim_check_answered : (s c m : List ℕ) → (a : ClaimAnswer) × (m' : List ℕ) × ClaimChecked s c m a m'
claim_check_answered s c m = go (table_at s) refl
  where
    go : (o : Out Table) → table_at s ≡ o → (a : ClaimAnswer) × (m' : List ℕ) × ClaimChecked s c m a m'
    go (got T n) e = let (a, m', o) = table_answered (table_sound s T n e) c m in (a, m', table_read e o)
    go (bad x) e = (TableRefused x, m, table_refused e)
