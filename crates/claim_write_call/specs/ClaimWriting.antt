-- What claim writing does, on every input (document 01, "Working memory and claims" and "What comes back"): its answer, what the lent memory m
-- holds afterwards, m', and what the lent space d holds, d'.
use Rattle.std.specs.Prelude.{◌≡◌, List, ℕ, ◌≤◌, ◌<◌, length}
use Rattle.std.proofs.lemmas.List.Edits.{sets}
use Rattle.numbers.specs.declared.refusals.Refusal.{Refusal}
use Rattle.numbers.specs.Reading.{got}
use Rattle.files.specs.Table.{Table, W}
use Rattle.files.specs.File.{table_at}
use Rattle.model.specs.Rules.{Fact, Derives}
use Rattle.model.specs.Claims.{Claimed}
use Rattle.store.specs.Clearing.{Cleared}
use Rattle.verdict.specs.declared.search.Verdict.{Verdict}
use Rattle.check_call.specs.Answer as check
use Rattle.check_call.specs.Checking.{Checked}
use Rattle.claim_reader.specs.ClaimFile.{AscendingBelow, claim_bytes}
use Rattle.claim_write_call.specs.WriteAnswer.{WriteAnswer, Written, Refused, Short, Over, NoSpace}

-- ps are the positions of the facts, ascending: what stands at them is derivable, and whatever is derivable stands at one of them
pub record FactPositions (T : Table) (ps : List ℕ) : Type 0 where
  pub ascending : AscendingBelow (W T) ps
  pub derives : (f : Fact) → Claimed T ps f → Derives T f
  pub claims : (f : Fact) → Derives T f → Claimed T ps f

-- bytes are the claim of exactly the facts of T, the table that the file s holds
pub record ClaimOf (s : List ℕ) (T : Table) (bytes : List ℕ) : Type 0 where
  pub next : ℕ
  pub is : table_at s ≡ got T next
  pub positions : List ℕ
  pub facts : FactPositions T positions
  pub written : bytes ≡ claim_bytes positions

-- "A check or writing goes on to 8, then 12." "A claim is written on either verdict."
pub data ClaimWritten (s : List ℕ) (budget : ℕ) (m d : List ℕ) : WriteAnswer → List ℕ → List ℕ → Type 0 where
  -- 1 to 6, 7 and 8: as the check answers, and the memory is as it leaves it; the space is untouched
  refused : {x : Refusal} {m' : List ℕ} → Checked s budget m (check.Refused x) m' → ClaimWritten s budget m d (Refused x) m' d
  short : {w : ℕ} {m' : List ℕ} → Checked s budget m (check.Short w) m' → ClaimWritten s budget m d (Short w) m' d
  over : {b : ℕ} {m' : List ℕ} → Checked s budget m (check.Over b) m' → ClaimWritten s budget m d (Over b) m' d
  -- 12: the check is done, and the space is shorter than the claim; the first W bytes are cleared, and the space is untouched
  no_space : {count : ℕ} {verdict : Verdict} {m₁ m' : List ℕ} {T : Table} {bytes : List ℕ} → Checked s budget m (check.Done count verdict) m₁
      → ClaimOf s T bytes → length d < length bytes → Cleared (W T) m m' → ClaimWritten s budget m d (NoSpace (length bytes)) m' d
  -- 0: the check is done, and the memory is as it leaves it; the claim stands at the start of the space, and no other byte of it is changed
  written : {count : ℕ} {verdict : Verdict} {m' : List ℕ} {T : Table} {bytes : List ℕ} → Checked s budget m (check.Done count verdict) m'
      → ClaimOf s T bytes → length bytes ≤ length d → ClaimWritten s budget m d (Written count verdict (length bytes)) m' (sets d 0 bytes)
