-- What the check does, on every input (document 01, "What comes back"): its answer, and what the lent memory m holds afterwards, m'.
use Rattle.std.specs.Prelude.{◌≡◌, List, ℕ, ◌≤◌, ◌<◌, length, drop}
use Rattle.numbers.specs.declared.refusals.Refusal.{Refusal}
use Rattle.numbers.specs.Reading.{got, bad}
use Rattle.files.specs.Table.{Table, Sound, W}
use Rattle.files.specs.File.{table_at}
use Rattle.model.specs.Rules.{Derives}
use Rattle.model.specs.Memory.{Relations, FactCount, Exceeds}
use Rattle.store.specs.Clearing.{Cleared}
use Rattle.verdict.specs.declared.search.Verdict.{Verdict}
use Rattle.verdict.specs.Judged.{Answers}
use Rattle.check_call.specs.Answer.{Answer, Done, Refused, Short, Over}

-- The check is done: the count is the number of facts of the least relations, and within the budget. The first W bytes hold these relations,
-- and the others are as they were. The verdict is theirs, with its smallest witness.
pub record Finished (T : Table) (budget : ℕ) (m : List ℕ) (count : ℕ) (verdict : Verdict) (m' : List ℕ) : Type 0 where
  pub counted : FactCount T count
  pub within : count ≤ budget
  pub relations : Relations T m'
  pub rest : drop (W T) m' ≡ drop (W T) m
  pub judged : Answers T (Derives T) verdict

-- what comes back for a table that was read
pub data OfTable (T : Table) (budget : ℕ) (m : List ℕ) : Answer → List ℕ → Type 0 where
  -- 7: the working memory is shorter than W; nothing is changed
  short : length m < W T → OfTable T budget m (Short (W T)) m
  -- 8: there are more facts than the budget; the first W bytes are cleared
  over : {m' : List ℕ} → W T ≤ length m → Exceeds T budget → Cleared (W T) m m' → OfTable T budget m (Over budget) m'
  -- 0
  done : {count : ℕ} {verdict : Verdict} {m' : List ℕ} → W T ≤ length m → Finished T budget m count verdict m'
      → OfTable T budget m (Done count verdict) m'

-- what comes back for a file
pub data Checked (s : List ℕ) (budget : ℕ) (m : List ℕ) : Answer → List ℕ → Type 0 where
  -- 1 to 6, as the reader gives them; nothing is changed
  refused : {x : Refusal} → table_at s ≡ bad x → Checked s budget m (Refused x) m
  read : {T : Table} {next : ℕ} {a : Answer} {m' : List ℕ} → table_at s ≡ got T next → OfTable T budget m a m' → Checked s budget m a m'

-- What a finished check tells. Demand 2 of document 00: "The relations, the fact count, the verdict and the first witness are those of the
-- published thread-modular rules", here for the table that the file holds.
pub record CheckDone (s : List ℕ) (budget : ℕ) (m : List ℕ) (count : ℕ) (verdict : Verdict) (m' : List ℕ) : Type 0 where
  pub table : Table
  pub next : ℕ
  pub is : table_at s ≡ got table next
  pub sound : Sound table
  pub finished : Finished table budget m count verdict m'
