-- A number outside its column's range is refused at its place: 4, with its first byte, in any part of a table's file, all before it being sound.
-- A cell that is refused refuses its row, a row its list or the header, and these the file; and nothing before the cell is refused, since it was read.
use mathlib.Core.Path.{◌≡◌, sym, ap, ◌∙◌}
use mathlib.Core.List.{List, ◌∷◌, ◌++◌}
use Prim.Native.Nat.{ℕ, ◌<◌}
use native.Mathlib.Omega.{arith}
use Rattle.numbers.specs.declared.refusals.Refusal.{Refusal}
use Rattle.numbers.specs.declared.refusals.Refusal.TheVariants.{Outside}
use Rattle.numbers.specs.Reading.{got, bad, number_at}
use Rattle.numbers.proofs.ReadingLaws.{never}
use Rattle.cells.specs.declared.columns.Column.{Column}
use Rattle.cells.specs.Columns.{OutOf}
use Rattle.cells.specs.Rows.{row_at}
use Rattle.cells.proofs.RowStops.{cell_outside, row_refused, count_refused}
use Rattle.lists.specs.Lists.{list_at}
use Rattle.lists.proofs.ListLaws.{list_uncounted}
use Rattle.lists.proofs.ListStops.{list_row_refused}
use Rattle.files.specs.declared.header.Header.{Header}
use Rattle.files.specs.File.{table_at}
use Rattle.files.proofs.TableStops.{sizes_refused, places_refused, locals_refused, steps_refused, pushes_refused, pops_refused, errors_refused}
use Rattle.check_call.specs.Answer.{Answer}
use Rattle.check_call.specs.Answer as check
use Rattle.check_call.specs.Checking as checking
use Rattle.check_call.specs.Checking.{Checked}
use Rattle.check_call.proofs.Unique.{bad_refusal}
use Rattle.claim_check_call.specs.ClaimAnswer.{ClaimAnswer}
use Rattle.claim_check_call.specs.ClaimAnswer as claim
use Rattle.claim_check_call.specs.ClaimChecking.{ClaimChecked, table_refused, table_read}
use Rattle.claim_write_call.specs.WriteAnswer.{WriteAnswer}
use Rattle.claim_write_call.specs.WriteAnswer as write
use Rattle.claim_write_call.specs.ClaimWriting as writing
use Rattle.claim_write_call.specs.ClaimWriting.{ClaimWritten}
use Rattle.claims.specs.Owed.{
  most_rows,
  columns_of,
  ListDue,
  first_list,
  next_list,
  RowDue,
  sizes,
  places,
  locals,
  list_count,
  list_row,
}

module _ {s : List ℕ} {x : Refusal} where
  -- what refuses a list that is due refuses the file
  list_due_refused : {i : ℕ} {h : Header} {a : ℕ} → ListDue s i h a → i < 4 → list_at (most_rows i) (columns_of i h.sizes) s a ≡ bad x
      → table_at s ≡ bad x
  list_due_refused (first_list h) l e = steps_refused s _ _ h e
  list_due_refused (next_list (first_list h) st) l e = pushes_refused s _ _ h _ _ st e
  list_due_refused (next_list (next_list (first_list h) st) pu) l e = pops_refused s _ _ h _ _ st _ _ pu e
  list_due_refused (next_list (next_list (next_list (first_list h) st) pu) po) l e = errors_refused s _ _ h _ _ st _ _ pu _ _ po e
  list_due_refused (next_list (next_list (next_list (next_list d st) pu) po) er) l e = absurd (omega arith)

  -- and so does what refuses a row that is due
  row_due_refused : {cs : List Column} {a : ℕ} → RowDue s cs a → row_at cs s a ≡ bad x → table_at s ≡ bad x
  row_due_refused (sizes v) e = sizes_refused s _ _ v e
  row_due_refused (places v z) e = places_refused s _ _ v _ _ z e
  row_due_refused (locals v z q) e = locals_refused s _ _ v _ _ z _ _ q e
  row_due_refused (list_count d l) e = list_due_refused d l (list_uncounted _ _ s _ (count_refused s 0 _ _ e))
  row_due_refused (list_row d l k r j) e = list_due_refused d l (list_row_refused _ s _ _ _ _ _ _ k r j e)

-- the cells of the columns before c were read, and the number that stands there is outside the range of c
pub out_of_range : {s : List ℕ} (before : List Column) (c : Column) (after : List Column) {a p v n : ℕ} {vs : List ℕ}
    → RowDue s (before ++ c ∷ after) a → row_at before s a ≡ got vs p → number_at s p ≡ got v n → OutOf c v → table_at s ≡ bad (Outside p)
out_of_range {s} before c after {a} {p} due cells number out =
    row_due_refused due (row_refused s before c after a p cells (cell_outside s p number c out))

-- ---- what refuses the table's file, each call answers

module _ {s : List ℕ} {x : Refusal} (e : table_at s ≡ bad x) where
  pub check_refused : {budget : ℕ} {m m' : List ℕ} {a : Answer} → Checked s budget m a m' → a ≡ check.Refused x
  check_refused (checking.refused q) = ap check.Refused (bad_refusal (sym q ∙ e))
  check_refused (checking.read q o) = let n = sym q ∙ e in never (cc)

  pub claim_refused : {c m m' : List ℕ} {a : ClaimAnswer} → ClaimChecked s c m a m' → a ≡ claim.TableRefused x
  claim_refused (table_refused q) = ap claim.TableRefused (bad_refusal (sym q ∙ e))
  claim_refused (table_read q o) = let n = sym q ∙ e in never (cc)

  pub write_refused : {budget : ℕ} {m d m' d' : List ℕ} {a : WriteAnswer} → ClaimWritten s budget m d a m' d' → a ≡ write.Refused x
  write_refused (writing.refused h) = let q = check_refused h in cc
  write_refused (writing.short h) = let q = check_refused h in never (cc)
  write_refused (writing.over h) = let q = check_refused h in never (cc)
  write_refused (writing.no_space h of l z) = let q = check_refused h in never (cc)
  write_refused (writing.written h of l) = let q = check_refused h in never (cc)
