-- The words of the demands (document 00) that no contract has.
--     Clears, Changes    demand 1, what a refusal leaves of the working memory
--     ListDue, RowDue    demand 1, what is due at a place of a table's file, all before it being sound
--     IsAccepted         demands 2 and 3, that a claim is accepted
--     RoomForClaim       demand 3, that there is room for the claim
--     RunsSafely         demand 3, that no run of a file's table meets an error state
use Rattle.std.specs.Prelude.{◌≡◌, List, [], ◌∷◌, ℕ, suc, ◌+◌, ◌≤◌, ◌<◌, length, get_or}
use Rattle.numbers.specs.Reading.{got, field_at, version_at}
use Rattle.cells.specs.declared.columns.Column.{Column}
use Rattle.cells.specs.declared.columns.Column.TheVariants.{Within}
use Rattle.cells.specs.declared.columns.Sizes.{Sizes}
use Rattle.cells.specs.Columns.{step_columns, push_columns, pop_columns, error_columns}
use Rattle.cells.specs.Rows.{row_at}
use Rattle.lists.specs.Lists.{rows_at, list_at}
use Rattle.files.specs.declared.header.Header.{Header}
use Rattle.files.specs.Table.{Table, W, most_steps, most_pushes, most_pops, most_errors}
use Rattle.files.specs.Header.{size_columns, place_columns, local_columns, sizes_of, header_at}
use Rattle.files.specs.File.{table_at}
use Rattle.model.specs.Runs.{State, Run}
use Rattle.model.specs.Errors.{ErrorState}
use Rattle.store.specs.Clearing.{Cleared}
use Rattle.claim_check_call.specs.ClaimAnswer.{ClaimAnswer, Accepted}
use Rattle.claim_check_call.specs.ClaimChecking.{ClaimChecked}
use Rattle.claim_write_call.specs.ClaimWriting.{ClaimOf}

-- ---- demand 1

-- the first W bytes are cleared, for the table that the file s holds, and the others are as they were
abbrev pub Clears : (s m m' : List ℕ) → Type 0
Clears s m m' = (T : Table) × (next : ℕ) × (table_at s ≡ got T next) × Cleared (W T) m m'

-- What an answer of this number leaves of a memory (01, "What comes back": "1 to 7 change nothing; 8 to 12 set the first W bytes to 0."). On 0 it
-- says nothing: what the memory then holds, the contract of each call says.
pub record Changes (s m m' : List ℕ) (number : ℕ) : Type 0 where
  pub nothing : 1 ≤ number → number ≤ 7 → m' ≡ m
  pub clears : 8 ≤ number → Clears s m m'

-- the four lists in file order: how many rows each may have, and its columns
abbrev pub most_rows : ℕ → ℕ
most_rows i = get_or (most_steps ∷ most_pushes ∷ most_pops ∷ most_errors ∷ []) i 0

abbrev pub columns_of : ℕ → Sizes → List Column
columns_of i z = get_or (step_columns z ∷ push_columns z ∷ pop_columns z ∷ error_columns z ∷ []) i []

-- list i of the file s is due at a place: the header and the lists before it were read
pub data ListDue (s : List ℕ) : ℕ → Header → ℕ → Type 0 where
  first_list : {h : Header} {a : ℕ} → header_at s ≡ got h a → ListDue s 0 h a
  next_list : {i : ℕ} {h : Header} {a b : ℕ} {rs : List (List ℕ)} → ListDue s i h a → list_at (most_rows i) (columns_of i h.sizes) s a ≡ got rs b
      → ListDue s (suc i) h b

-- a row of these columns is due at a place, all before it being sound: a part of the header, the count of a list, or a row of it
pub data RowDue (s : List ℕ) : List Column → ℕ → Type 0 where
  sizes : {v a : ℕ} → version_at s ≡ got v a → RowDue s size_columns a
  places : {v a b : ℕ} {z : List ℕ} → version_at s ≡ got v a → row_at size_columns s a ≡ got z b → RowDue s (place_columns (sizes_of z)) b
  locals : {v a b c : ℕ} {z q : List ℕ} → version_at s ≡ got v a → row_at size_columns s a ≡ got z b → row_at (place_columns (sizes_of z)) s b ≡ got q c
      → RowDue s (local_columns (sizes_of z)) c
  list_count : {i : ℕ} {h : Header} {a : ℕ} → ListDue s i h a → i < 4 → RowDue s (Within 0 (most_rows i) ∷ []) a
  list_row : {i : ℕ} {h : Header} {a k b j p : ℕ} {rs : List (List ℕ)} → ListDue s i h a → i < 4 → field_at s a 0 (most_rows i + 1) ≡ got k b
      → rows_at j [] (columns_of i h.sizes) s b ≡ got rs p → j < k → RowDue s (columns_of i h.sizes) p

-- ---- demands 2 and 3

-- given memory enough for the table T that the file s holds, the claim check accepts the claim's file c; `count` is the claim's count
abbrev pub IsAccepted : (s : List ℕ) → Table → (c : List ℕ) → (count : ℕ) → Type 0
IsAccepted s T c count = (m m' : List ℕ) (a : ClaimAnswer) → W T ≤ length m → ClaimChecked s c m a m' → a ≡ Accepted count

-- "room for the claim enough": the space d is no shorter than the claim of the table's facts
abbrev pub RoomForClaim : (s : List ℕ) → Table → (d : List ℕ) → Type 0
RoomForClaim s T d = (bytes : List ℕ) → ClaimOf s T bytes → length bytes ≤ length d

-- the file s holds a table, and no run of it from its start meets an error state
pub record RunsSafely (s : List ℕ) : Type 0 where
  pub table : Table
  pub next : ℕ
  pub is : table_at s ≡ got table next
  pub safe : (x : State) → Run table x → ¬ ErrorState table x
