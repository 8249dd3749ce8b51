-- Laws of cells and rows, and the invariant of the loop that reads a row through a reader.
--     range_some               the cells of a column that is there are the numbers of its range
--     ranged_cell, absent_cell a number that is asked for its column's range is the column's cell; a column that is not there has 0
--     cell_past                past a cell that was read, a reader stands where the cell ends
--     onward_none, _push       what was read before, in front of what is read then
--     row_none, _step, _stop   what `row_at` gives, by its first cell
--     Filling, fill-…          the row's cells up to column j are read, and the rest stands where the reader does
use mathlib.Core.Path.{◌≡◌, refl, sym, ap, ◌∙◌}
use mathlib.Core.List.{List, [], ◌∷◌, ◌++◌, append-nil}
use Prim.Native.Nat.{ℕ, suc, ◌+◌, ◌≤◌, ◌<◌}
use native.Mathlib.Omega.{arith}
use native.Mathlib.Numerals.{add-one}
use native.Mathlib.Nat.{zero-add}
use Rattle.std.specs.Prelude.{Option, Some, None, Result}
use lib.ListN.{length, get_or, set, drop, length-append}
use lib.Seq.{sets, append_snoc, drop-cons, drop-length}
use Rattle.numbers.specs.declared.refusals.Refusal.{Refusal}
use Rattle.numbers.specs.declared.reading.Part.{Part}
use Rattle.numbers.specs.Reading.{Out, got, bad, number_at, field_at, part_of}
use Rattle.numbers.proofs.ReadingLaws.{never}
use Rattle.numbers.proofs.FieldLaws.{field_number}
use Rattle.numbers.proofs.PutLaws.{sets_append}
use Rattle.reader.specs.declared.Reader.{Reader}
use Rattle.reader.specs.Places.{past_of}
use Rattle.reader.specs.Ranges.{ranged_of}
use Rattle.reader.specs.Readers.{moved_on}
use Rattle.reader.proofs.RangeLaws.{ranged_field}
use Rattle.cells.specs.declared.columns.Column.{Column}
use Rattle.cells.specs.declared.columns.Column.TheVariants.{Within, Below, Absent}
use Rattle.cells.specs.Rows.{push, cell_at, row_at}
use Rattle.cells.specs.Passing.{past_cell, past_row}
use Rattle.cells.specs.Columns.{range_of}
use Rattle.cells.proofs.RowMemory.{sets_whole}

-- ---- a cell

pair : {a b a' b' : ℕ} → ◌≡◌ {A = Option (ℕ × ℕ)} (Some (a, b)) (Some (a', b')) → (a ≡ a') × (b ≡ b')
pair {a} {b} {a'} {b'} e =
    let same : ◌≡◌ {A = ℕ × ℕ} (a, b) (a', b') = cc in
    (ap (λ (p : ℕ × ℕ). p.0) same, ap (λ (p : ℕ × ℕ). p.1) same)

-- the cells of a column are the numbers of its range
pub range_some : (c : Column) {low end : ℕ} → range_of c ≡ Some (low, end)
    → ((s : List ℕ) (at : ℕ) → cell_at c s at ≡ field_at s at low end) × ((r : Reader) → past_cell c r ≡ moved_on r)
unfolding cell_at
range_some (Within low most) e = let (l, m) = pair e in ((λ s at. rw (l, m)), λ r. refl)
range_some (Below end) e = let (l, m) = pair e in ((λ s at. rw (l, m)), λ r. refl)
range_some Absent e = never (cc)

-- a number that is asked for its column's range is the column's cell, and the reader is past it
pub ranged_cell : (c : Column) (r : Reader) {low end : ℕ} {taken : Result (Part ℕ) Refusal} → range_of c ≡ Some (low, end)
    → taken ≡ ranged_of r.at low end (part_of (number_at r.src.now r.at)) → (taken ≡ part_of (cell_at c r.src.now r.at)) × (past_cell c r ≡ moved_on r)
ranged_cell c r {low} {end} q e =
    let (cell, past) = range_some c q in
    (rw (cell, e) (ranged_field r.at low end r.src.now), past r)

-- a column that is not there takes no bytes
pub absent_cell : (c : Column) (r : Reader) → range_of c ≡ None → (cell_at c r.src.now r.at ≡ got 0 r.at) × (past_cell c r ≡ r)
unfolding cell_at
absent_cell (Within low most) r e = never (cc)
absent_cell (Below end) r e = never (cc)
absent_cell Absent r e = (refl, refl)

-- a reader at the place n
abbrev pub to : Reader → ℕ → Reader
to r n = record { src = r.src; at = n }

field_past : (r : Reader) (low end : ℕ) {v n : ℕ} → field_at r.src.now r.at low end ≡ got v n → moved_on r ≡ to r n
field_past r low end {v} {n} e = ap (λ (o : Out ℕ). to r (past_of r.at (part_of o))) (field_number r.src.now r.at low end v n e)

pub cell_past : (c : Column) (r : Reader) {v n : ℕ} → cell_at c r.src.now r.at ≡ got v n → past_cell c r ≡ to r n
unfolding cell_at
cell_past (Within low most) r e = field_past r low (most + 1) e
cell_past (Below end) r e = field_past r 0 end e
cell_past Absent r {v} {n} e = let place : r.at ≡ n = cc in ap (to r) place

-- ---- what was read before, in front of what is read then

abbrev pub onward : {A : Type 0} → List A → Out (List A) → Out (List A)
onward xs (got ys n) = got (xs ++ ys) n
onward xs (bad r) = bad r

pub onward_none : {A : Type 0} (o : Out (List A)) → o ≡ onward [] o
onward_none (got ys n) = refl
onward_none (bad r) = refl

pub onward_push : {A : Type 0} (xs : List A) (v : A) (o : Out (List A)) → onward xs (push v o) ≡ onward (xs ++ (v ∷ [])) o
onward_push {A} xs v (got ys n) = ap (λ (l : List A). got l n) (sym (append_snoc xs v ys))
onward_push xs v (bad r) = refl

-- ---- the loop over the columns

-- column j; past the last there is none, and any will do
abbrev pub column_at : List Column → ℕ → Column
column_at cs j = get_or cs j (Within 0 0)

-- the cells of a row of which nothing is read
abbrev pub no_cells : List ℕ
no_cells = 0 ∷ 0 ∷ 0 ∷ 0 ∷ 0 ∷ []

pub row_step : (c : Column) (cs : List Column) (s : List ℕ) (p : ℕ) {v n : ℕ} → cell_at c s p ≡ got v n → row_at (c ∷ cs) s p ≡ push v (row_at cs s n)
unfolding row_at
row_step c cs s p e = rw e

pub row_stop : (c : Column) (cs : List Column) (s : List ℕ) (p : ℕ) {r : Refusal} → cell_at c s p ≡ bad r → row_at (c ∷ cs) s p ≡ bad r
unfolding row_at
row_stop c cs s p e = rw e

pub row_none : (s : List ℕ) (p : ℕ) → row_at [] s p ≡ got [] p
unfolding row_at
row_none s p = refl

pub past_step : (c : Column) (cs : List Column) (r : Reader) {v n : ℕ} → cell_at c r.src.now r.at ≡ got v n
    → past_row (c ∷ cs) r ≡ past_row cs (past_cell c r)
unfolding past_row
past_step c cs r e = rw e

past_stop : (c : Column) (cs : List Column) (r : Reader) {x : Refusal} → cell_at c r.src.now r.at ≡ bad x → past_row (c ∷ cs) r ≡ past_cell c r
unfolding past_row
past_stop c cs r e = rw e

pub past_none : (r : Reader) → past_row [] r ≡ r
unfolding past_row
past_none r = refl

pub drop_column : (cs : List Column) (j : ℕ) → j < length cs → drop j cs ≡ column_at cs j ∷ drop (suc j) cs
drop_column cs j h = drop-cons cs j (Within 0 0) h

pub record Filling (cs : List Column) (r₀ : Reader) (cells : List ℕ) (r : Reader) (j : ℕ) : Type 0 where
  pub five : length cs ≡ 5
  pub done : List ℕ
  pub many : length done ≡ j
  pub up : j ≤ 5
  pub same : row_at cs r₀.src.now r₀.at ≡ onward done (row_at (drop j cs) r.src.now r.at)
  pub moved : past_row cs r₀ ≡ past_row (drop j cs) r
  pub held : cells ≡ sets no_cells 0 done

module _ {cs : List Column} {r₀ : Reader} where
  pub fill_start : length cs ≡ 5 → Filling cs r₀ no_cells r₀ 0
  fill_start five =
      record { five = five; done = []; many = refl; up = omega arith; same = onward_none _; moved = refl; held = refl }

  module _ {cells : List ℕ} {r : Reader} {j : ℕ} (f : Filling cs r₀ cells r j) where
    module _ (h : j < 5) where
      pub next_column : drop j cs ≡ column_at cs j ∷ drop (suc j) cs
      next_column = drop_column cs j (omega (arith, f.five))

      pub fill_more : {v n : ℕ} → cell_at (column_at cs j) r.src.now r.at ≡ got v n
          → Filling cs r₀ (set cells j v) (past_cell (column_at cs j) r) (j + 1)
      fill_more {v} {n} e =
          let c = column_at cs j in
          record {
            five = f.five;
            done = f.done ++ (v ∷ []);
            many = length-append f.done (v ∷ []) ∙ ap (λ (m : ℕ). m + 1) f.many;
            up = omega arith;
            same = f.same ∙ rw (next_column, row_step c _ _ _ e, add-one j, cell_past c r e)
                (onward_push f.done v (row_at (drop (suc j) cs) r.src.now n));
            moved = f.moved ∙ rw (next_column, add-one j) (past_step c _ r e);
            held = rw (f.held, ← f.many) (rw (zero-add (length f.done)) at (sets_append f.done (v ∷ []) no_cells 0));
          }

      pub fill_bad : {x : Refusal} → cell_at (column_at cs j) r.src.now r.at ≡ bad x
          → (row_at cs r₀.src.now r₀.at ≡ bad x) × (past_row cs r₀ ≡ past_cell (column_at cs j) r)
      fill_bad e = (f.same ∙ rw (next_column, row_stop _ _ _ _ e), f.moved ∙ rw (next_column) (past_stop _ _ _ e))

    pub fill_end : 5 ≤ j → (row_at cs r₀.src.now r₀.at ≡ got cells r.at) × (past_row cs r₀ ≡ r)
    fill_end h =
        let last : j ≡ length cs = omega (arith, f.five, f.up) in
        let whole : cells ≡ f.done = f.held ∙ sets_whole f.done no_cells (omega (arith, f.many, f.up)) in
        (f.same ∙ rw (last, drop-length, row_none, append-nil, whole), f.moved ∙ rw (last, drop-length) (past_none r))
