-- What the claim check does, on every input (document 01, "What comes back"): its answer, and what the lent memory m holds afterwards, m'. Each
-- layer below is one step of the order: "Then 7. … A claim check goes on to the claim's 1 to 6 …, then 9, 10, 11."
use Rattle.std.specs.Prelude.{◌≡◌, List, ℕ, ◌≤◌, ◌<◌, length, drop}
use Rattle.numbers.specs.declared.refusals.Refusal.{Refusal}
use Rattle.numbers.specs.Reading.{got, bad}
use Rattle.files.specs.Table.{Table, W}
use Rattle.files.specs.File.{table_at}
use Rattle.model.specs.Memory.{Holds}
use Rattle.model.specs.Claims.{Claimed, Finding, Finds, accepted, lacks_start, not_closed, allows_error}
use Rattle.store.specs.Clearing.{Cleared}
use Rattle.claim_reader.specs.ClaimFile.{claim_at}
use Rattle.claim_check_call.specs.ClaimAnswer.{
  ClaimAnswer,
  Accepted,
  TableRefused,
  Short,
  ClaimRefused,
  LacksStart,
  NotClosed,
  AllowsError,
}

-- The claim is accepted: neither 9 nor 10 nor 11 is found of the claimed facts. "On 0 the first W bytes hold … the claimed facts", and the others are
-- as they were.
pub record Accepts (T : Table) (ps m m' : List ℕ) : Type 0 where
  pub found : Finds T (Claimed T ps) accepted
  pub facts : Holds T (Claimed T ps) m'
  pub rest : drop (W T) m' ≡ drop (W T) m

-- The claim is refused for what is found of the claimed facts: the first W bytes are cleared, and the others are as they were.
pub record Refuses (T : Table) (ps m : List ℕ) (x : Finding) (m' : List ℕ) : Type 0 where
  pub found : Finds T (Claimed T ps) x
  pub cleared : Cleared (W T) m m'

-- what comes back for a claim that was read as the positions ps
pub data OfPositions (T : Table) (ps m : List ℕ) : ClaimAnswer → List ℕ → Type 0 where
  -- 0: the value is the claim's count
  done : {m' : List ℕ} → Accepts T ps m m' → OfPositions T ps m (Accepted (length ps)) m'
  -- 9: the claim lacks a start fact, that of thread t and of none before it
  lacking : {t : ℕ} {m' : List ℕ} → Refuses T ps m (lacks_start t) m' → OfPositions T ps m (LacksStart t) m'
  -- 10: p is the smallest position that one use of a rule yields from claimed facts and isn't claimed
  missing : {p : ℕ} {m' : List ℕ} → Refuses T ps m (not_closed p) m' → OfPositions T ps m (NotClosed p) m'
  -- 11: the claim allows an error, by the row and by none before it
  allowing : {row : ℕ} {m' : List ℕ} → Refuses T ps m (allows_error row) m' → OfPositions T ps m (AllowsError row) m'

-- what comes back for a table that was read
pub data AgainstTable (T : Table) (c m : List ℕ) : ClaimAnswer → List ℕ → Type 0 where
  -- 7: the working memory is shorter than W; nothing is changed
  short : length m < W T → AgainstTable T c m (Short (W T)) m
  -- the claim's 1 to 6, as its reader gives them; nothing is changed
  claim_refused : {x : Refusal} → W T ≤ length m → claim_at (W T) c ≡ bad x → AgainstTable T c m (ClaimRefused x) m
  claim_read : {ps : List ℕ} {next : ℕ} {a : ClaimAnswer} {m' : List ℕ} → W T ≤ length m → claim_at (W T) c ≡ got ps next
      → OfPositions T ps m a m' → AgainstTable T c m a m'

-- what comes back for a table's file s and a claim's file c
pub data ClaimChecked (s c m : List ℕ) : ClaimAnswer → List ℕ → Type 0 where
  -- the table's 1 to 6, as its reader gives them; nothing is changed
  table_refused : {x : Refusal} → table_at s ≡ bad x → ClaimChecked s c m (TableRefused x) m
  table_read : {T : Table} {next : ℕ} {a : ClaimAnswer} {m' : List ℕ} → table_at s ≡ got T next → AgainstTable T c m a m' → ClaimChecked s c m a m'
