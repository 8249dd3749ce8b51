-- What we owe: the three demands of document 00, of the calls' own contracts. Open this file first.
--     Checked       what the check promises (check_call/specs/Checking.antt)
--     ClaimChecked  what the claim check promises (claim_check_call/specs/ClaimChecking.antt)
--     ClaimWritten  what claim writing promises (claim_write_call/specs/ClaimWriting.antt)
-- and of the demands' own words (claims/specs/Owed.antt).
-- Each of the three functions is proved to end and to meet its contract on every input, with no `requires`. Here s is a table's file and c a
-- claim's; m is the working memory before a call and m' after it; d is the space for a claim, and d' the space after the call.
use mathlib.Core.Path.{◌≡◌, ap}
use mathlib.Core.List.{List, ◌∷◌, ◌++◌}
use Prim.Native.Nat.{ℕ, ◌≤◌, ◌<◌}
use lib.ListN.{length, get_or, take}
use Rattle.numbers.specs.Reading.{got, number_at}
use Rattle.cells.specs.declared.columns.Column.{Column}
use Rattle.cells.specs.Columns.{OutOf}
use Rattle.cells.specs.Rows.{row_at}
use Rattle.files.specs.Table.{Table, Sound, W}
use Rattle.files.specs.File.{table_at}
use Rattle.files.proofs.TableLaws.{table_sound}
use Rattle.files.proofs.WLaws.{W_max}
use Rattle.model.specs.Rules.{ClosedWithStarts}
use Rattle.model.specs.Runs.{State, Run}
use Rattle.model.specs.Errors as errors
use Rattle.model.specs.Errors.{ErrorState}
use Rattle.model.specs.Memory.{FactCount}
use Rattle.model.specs.Claims.{Claimed}
use Rattle.model.proofs.FactCounts.{fact_count_exists}
use Rattle.model.proofs.Unique.{fact_count_same}
use Rattle.verdict.specs.declared.search.Witness.{Witness}
use Rattle.verdict.specs.declared.search.Verdict.{Verdict}
use Rattle.verdict.specs.declared.search.Verdict.TheVariants.{Safe, Possible}
use Rattle.check_call.specs.Answer.{Answer, Done, Over}
use Rattle.check_call.specs.Answers.{plain, reply_of}
use Rattle.check_call.specs.Checking.{Checked, CheckDone}
use Rattle.check_call.proofs.Unique.{checked_same, checked_answer}
use Rattle.check_call.proofs.Exactly.{check_done, finishes_within, refused_beyond, done_with_W, budget_0_refused}
use Rattle.check_call.proofs.Answered.{check_answered}
use Rattle.claim_reader.specs.ClaimFile.{claim_at, claim_bytes, AscendingBelow}
use Rattle.claim_reader.proofs.RoundTrip.{claim_ascending, claim_back, claim_one}
use Rattle.claim_check_call.specs.ClaimAnswer.{ClaimAnswer, Accepted}
use Rattle.claim_write_call.specs.WriteAnswer.{WriteAnswer, Written}
use Rattle.claim_check_call.specs.Answers as claim
use Rattle.claim_check_call.specs.ClaimChecking.{OfPositions, ClaimChecked}
use Rattle.claim_write_call.specs.Answers.{write_reply_of}
use Rattle.claim_write_call.specs.ClaimWriting.{ClaimOf, ClaimWritten}
use Rattle.claim_write_call.specs.ReadBack.{WrittenClaim}
use Rattle.claims.specs.Owed.{Changes, RowDue, IsAccepted, RoomForClaim}
use Rattle.claims.proofs.OutOfRange.{out_of_range, check_refused, claim_refused, write_refused}
use Rattle.claims.proofs.Changes.{check_changes, claim_changes, write_changes}
use Rattle.claim_check_call.proofs.ClaimCases.{table_was_read, claim_was_read}
use Rattle.claims.proofs.Accepted as accepting
use Rattle.claims.proofs.OwnClaims.{safe_accepted, safe_written}
use Rattle.claim_write_call.proofs.WrittenLaws.{written_claim, claim_one_to_one}
use Rattle.claim_check_call.proofs.Unique.{claim_checked_same, claim_answer_same}
use Rattle.claim_check_call.proofs.Answered.{claim_check_answered}
use Rattle.claim_write_call.proofs.Unique.{claim_written_same, claim_written_answer}
use Rattle.claim_write_call.proofs.Answered.{claim_writing_answered}

-- ---- Demand 1: an answer, always

-- a table that is let in has every number in its own column's range
pub read_in_range : (s : List ℕ) {T : Table} {n : ℕ} → table_at s ≡ got T n → Sound T
read_in_range s {T} {n} e = table_sound s T n e

-- every call ends with an answer: for every input there is one that the contract allows, and the function is proved to end with one
pub check_ends : (s : List ℕ) (budget : ℕ) (m : List ℕ) → (a : Answer) × (m' : List ℕ) × Checked s budget m a m'
check_ends = check_answered

pub claim_check_ends : (s c m : List ℕ) → (a : ClaimAnswer) × (m' : List ℕ) × ClaimChecked s c m a m'
claim_check_ends = claim_check_answered

pub claim_writing_ends : (s : List ℕ) (budget : ℕ) (m d : List ℕ)
    → (a : WriteAnswer) × (m' : List ℕ) × (d' : List ℕ) × ClaimWritten s budget m d a m' d'
claim_writing_ends = claim_writing_answered

-- "A number outside its own column's range is refused at its place", in any part of the file, all before it being sound. A row of the columns
-- is due at a place; the cells before column c were read up to p; and v, which stands there, is outside the range of c. Each call answers 4, and the
-- value is p.
module _ {s : List ℕ} (before : List Column) (c : Column) (after : List Column) {at p v n : ℕ} {vs : List ℕ}
    (due : RowDue s (before ++ c ∷ after) at) (cells : row_at before s at ≡ got vs p) (number : number_at s p ≡ got v n) (out : OutOf c v) where
  pub check_refuses_out_of_range : {budget : ℕ} {m m' : List ℕ} {a : Answer} → Checked s budget m a m' → reply_of a ≡ plain 4 p
  check_refuses_out_of_range h = ap reply_of (check_refused (out_of_range before c after due cells number out) h)

  pub claim_check_refuses_out_of_range : {claimed m m' : List ℕ} {a : ClaimAnswer} → ClaimChecked s claimed m a m' → claim.claim_reply_of a ≡ plain 4 p
  claim_check_refuses_out_of_range h = ap claim.claim_reply_of (claim_refused (out_of_range before c after due cells number out) h)

  pub claim_writing_refuses_out_of_range : {budget : ℕ} {m d m' d' : List ℕ} {a : WriteAnswer} → ClaimWritten s budget m d a m' d'
      → write_reply_of a ≡ plain 4 p
  claim_writing_refuses_out_of_range h = ap write_reply_of (write_refused (out_of_range before c after due cells number out) h)

module _ {s : List ℕ} where
  module _ {budget : ℕ} {m m₁ m₂ : List ℕ} {a b : Answer} where
    -- the inputs determine the answer and every byte
    pub check_determined : Checked s budget m a m₁ → Checked s budget m b m₂ → (a ≡ b) × (m₁ ≡ m₂)
    check_determined = checked_same

    -- what the memory held before changes no answer
    pub check_whatever_held : {n : List ℕ} → length m ≡ length n → Checked s budget m a m₁ → Checked s budget n b m₂ → a ≡ b
    check_whatever_held = checked_answer

  -- refusals 1 to 7 change nothing, 8 clears the first W bytes and changes nothing else
  pub check_leaves : {budget : ℕ} {m m' : List ℕ} {a : Answer} → Checked s budget m a m' → Changes s m m' (reply_of a).number
  check_leaves = check_changes

  module _ {c m m₁ m₂ : List ℕ} {a b : ClaimAnswer} where
    pub claim_check_determined : ClaimChecked s c m a m₁ → ClaimChecked s c m b m₂ → (a ≡ b) × (m₁ ≡ m₂)
    claim_check_determined = claim_checked_same

    pub claim_check_whatever_held : {n : List ℕ} → length m ≡ length n → ClaimChecked s c m a m₁ → ClaimChecked s c n b m₂ → a ≡ b
    claim_check_whatever_held = claim_answer_same

  -- 9, 10 and 11 clear
  pub claim_check_leaves : {c m m' : List ℕ} {a : ClaimAnswer} → ClaimChecked s c m a m' → Changes s m m' (claim.claim_reply_of a).number
  claim_check_leaves = claim_changes

  module _ {budget : ℕ} {m d m₁ m₂ d₁ d₂ : List ℕ} {a b : WriteAnswer} where
    pub claim_writing_determined : ClaimWritten s budget m d a m₁ d₁ → ClaimWritten s budget m d b m₂ d₂ → (a ≡ b) × (m₁ ≡ m₂) × (d₁ ≡ d₂)
    claim_writing_determined = claim_written_same

    -- nor what is written
    pub claim_writing_whatever_held : {n : List ℕ} → length m ≡ length n → ClaimWritten s budget m d a m₁ d₁ → ClaimWritten s budget n d b m₂ d₂
        → (a ≡ b) × (d₁ ≡ d₂)
    claim_writing_whatever_held = claim_written_answer

  -- 8 and 12 clear; the space is untouched by every refusal
  pub claim_writing_leaves : {budget : ℕ} {m d m' d' : List ℕ} {a : WriteAnswer} → ClaimWritten s budget m d a m' d'
      → Changes s m m' (write_reply_of a).number × (1 ≤ (write_reply_of a).number → d' ≡ d)
  claim_writing_leaves = write_changes

-- ---- Demand 2: exactly the published rules

-- a finished check: for the table that the file holds, the memory holds the least relations, the count is the number of their facts, and the
-- verdict with its smallest witness is theirs
pub done_exactly : {s : List ℕ} {budget : ℕ} {m : List ℕ} {count : ℕ} {verdict : Verdict} {m' : List ℕ}
    → Checked s budget m (Done count verdict) m' → CheckDone s budget m count verdict m'
done_exactly = check_done

-- every table has exactly one number of facts, G, P and Q together; it is at most W
pub fact_count : (s : List ℕ) {T : Table} {n : ℕ} → table_at s ≡ got T n → (c : ℕ) × FactCount T c × (c ≤ W T)
fact_count s e = fact_count_exists (read_in_range s e)

pub fact_count_one : (T : Table) {c c' : ℕ} → FactCount T c → FactCount T c' → c ≡ c'
fact_count_one = fact_count_same

-- a sound table, and memory enough
module _ {s : List ℕ} {T : Table} {n : ℕ} (e : table_at s ≡ got T n) {m : List ℕ} (room : W T ≤ length m) where
  module _ {budget : ℕ} {a : Answer} {m' : List ℕ} (h : Checked s budget m a m') where
    -- "It finishes exactly if the least relations hold no more facts (G, P and Q together) than the budget. The reported count is that total."
    pub finishes_if : (fact_count s e).0 ≤ budget → (verdict : Verdict) × (a ≡ Done (fact_count s e).0 verdict)
    finishes_if = finishes_within e room (fact_count s e).1 h

    -- 8, and the value is the budget
    pub finishes_only_if : budget < (fact_count s e).0 → a ≡ Over budget
    finishes_only_if = refused_beyond e room (fact_count s e).1 h

    -- so with a budget of W or more it is never refused
    pub done_with_budget_W : W T ≤ budget → (c : ℕ) × (verdict : Verdict) × (a ≡ Done c verdict) × FactCount T c
    done_with_budget_W l = done_with_W e room l h

  -- "Budget 0, the table sound and the memory W or more: always 8, value 0."
  pub budget_0_is_8 : {a : Answer} {m' : List ℕ} → Checked s 0 m a m' → a ≡ Over 0
  budget_0_is_8 = budget_0_refused e room

  -- a claim of the right layout is refused only for what is found of its facts: "a missing start fact, a fact that the rules yield from it and it
  -- lacks, or an error that it allows"
  pub refused_only_for : {c ps m' : List ℕ} {next : ℕ} {a : ClaimAnswer} → claim_at (W T) c ≡ got ps next → ClaimChecked s c m a m'
      → OfPositions T ps m a m'
  refused_only_for reads h = claim_was_read room reads (table_was_read e h)

-- and one whose facts have the start facts, are closed under the rules and allow no error is accepted, whoever wrote it
pub closed_and_safe_is_accepted : {s c ps : List ℕ} {T : Table} {n next : ℕ} → table_at s ≡ got T n → claim_at (W T) c ≡ got ps next
    → ClosedWithStarts T (Claimed T ps) → errors.Safe T (Claimed T ps) → IsAccepted s T c (length ps)
closed_and_safe_is_accepted = accepting.closed_and_safe_accepted

-- Reading claims follows the layout exactly, whoever wrote them: positions that are read ascend and are below W; the claim of ascending positions
-- below W is read as these; and no other file is read as them.
pub claim_positions_ascend : (w : ℕ) (c ps : List ℕ) (next : ℕ) → claim_at w c ≡ got ps next → AscendingBelow w ps
claim_positions_ascend = claim_ascending

pub every_claim_is_read : {T : Table} → Sound T → (ps : List ℕ) → AscendingBelow (W T) ps → claim_at (W T) (claim_bytes ps) ≡ got ps (length (claim_bytes ps))
every_claim_is_read {T} sound ps = claim_back (W T) ps (W_max T sound)

-- c is a file's bytes
pub no_other_file_is_read : (w : ℕ) (c ps : List ℕ) (next : ℕ) → ((i : ℕ) → get_or c i 0 < 256) → claim_at w c ≡ got ps next → c ≡ claim_bytes ps
no_other_file_is_read = claim_one

-- reading what was written gives exactly the table's facts, and writing is one to one
pub written_read_back : {s : List ℕ} {budget : ℕ} {m d : List ℕ} {count : ℕ} {verdict : Verdict} {bytes : ℕ} {m' d' : List ℕ}
    → ClaimWritten s budget m d (Written count verdict bytes) m' d' → WrittenClaim s count verdict bytes (take bytes d')
written_read_back = written_claim

pub written_one_to_one : {s s' bytes : List ℕ} {T T' : Table} (c : ClaimOf s T bytes) (c' : ClaimOf s' T' bytes) → c.positions ≡ c'.positions
written_one_to_one = claim_one_to_one

-- ---- Demand 3: safe means safe

module _ {s : List ℕ} {T : Table} {n : ℕ} (e : table_at s ≡ got T n) where
  -- a claim from anyone's tool is accepted: no run of the table meets an error state
  pub accepted_means_safe : {c m m' : List ℕ} {count : ℕ} → ClaimChecked s c m (Accepted count) m' → {x : State} → Run T x → ¬ ErrorState T x
  accepted_means_safe = accepting.accepted_runs e

  -- the same if the check says safe
  pub safe_means_safe : {budget : ℕ} {m m' : List ℕ} {count : ℕ} → Checked s budget m (Done count Safe) m' → {x : State} → Run T x → ¬ ErrorState T x
  safe_means_safe = accepting.check_safe_runs e

  -- the claim that was written with the verdict safe is accepted
  pub safe_is_accepted : {budget : ℕ} {m d : List ℕ} {count bytes : ℕ} {m' d' : List ℕ}
      → ClaimWritten s budget m d (Written count Safe bytes) m' d' → IsAccepted s T (take bytes d') count
  safe_is_accepted = safe_accepted e

  -- and it is written, with this verdict, when the check says safe and budget, memory and room for the claim are enough
  pub safe_is_written : {budget : ℕ} {m m' k d k' d' : List ℕ} {count : ℕ} {a : WriteAnswer} → Checked s budget m (Done count Safe) m'
      → W T ≤ length k → RoomForClaim s T d → ClaimWritten s budget k d a k' d'
      → (bytes : ℕ) × (a ≡ Written count Safe bytes) × IsAccepted s T (take bytes d') count
  safe_is_written = safe_written e

-- when it says possible, every claim for that table is refused
pub possible_is_refused : {s c : List ℕ} {budget : ℕ} {m m' k k' : List ℕ} {facts count : ℕ} {witness : Witness}
    → Checked s budget k (Done facts (Possible witness)) k' → ¬ ClaimChecked s c m (Accepted count) m'
possible_is_refused = accepting.check_possible_never_accepted
