-- A cell and a row that were found are kept.
--     byte_here, _read, _past    a number that was found and fits a byte: its first byte is there and is the number, and it ends within the bytes
--     cell_found, _kept          the number at the place of a cell that was found is the cell, and fits a byte: to keep it is to keep the cell
--     absent_kept                the cell of a column that is not there is 0
--     Midway, mid-…              j cells of the row stand in memory, and the rest of the row stands from p on
-- Since the whole row is found, so is each of its cells.
use mathlib.Core.Path.{◌≡◌, refl, sym, ap, ◌∙◌}
use mathlib.Core.List.{List, [], ◌∷◌, ◌++◌, append-nil}
use Prim.Native.Nat.{ℕ, suc, ◌+◌, ◌/◌, ◌≤◌, ◌<◌}
use native.Mathlib.Omega.{arith}
use native.Mathlib.Numerals.{add-one}
use Rattle.std.specs.Prelude.{Some, None}
use lib.ListN.{length, get_or, set, drop, length-append}
use lib.Seq.{sets, length-sets, drop-length}
use Rattle.numbers.specs.Reading.{got, number_at}
use Rattle.numbers.proofs.ReadingLaws.{never, parts}
use Rattle.numbers.proofs.FieldLaws.{field_got, field_number}
use Rattle.numbers.proofs.NumberLaws.{Accepted, ended, more, accepted_one, number_accepted, number_past}
use Rattle.numbers.proofs.PutLaws.{sets_append}
use Rattle.cells.specs.declared.columns.Column.{Column}
use Rattle.cells.specs.declared.columns.Column.TheVariants.{Within, Below, Absent}
use Rattle.cells.specs.Rows.{cell_at, row_at}
use Rattle.cells.specs.Columns.{range_of}
use Rattle.cells.proofs.RowLaws.{column_at, range_some, onward, onward_none, onward_push, row_step, row_none, drop_column}
use Rattle.cells.proofs.RowFits.{pushed}
use Rattle.lists.specs.Keeping.{Found, FoundByte, CellKept, RowKept}

-- ---- a number

module _ {s : List ℕ} where
  one_byte : {left at v n : ℕ} → Accepted s left 1 at v n → v < 128 → n ≡ at + 1
  one_byte (ended h l z e m) f = m
  one_byte (more w h l e a) f = absurd (omega (arith, accepted_one s a))

  first_byte : {left least at v n : ℕ} → Accepted s left least at v n → v < 256 → get_or s at 0 < 256
      → (v ≡ get_or s at 0) × (n ≡ at + 1 + get_or s at 0 / 128)
  first_byte (ended h l z e m) f b = (e, omega arith)
  first_byte (more w h l e a) f b =
      let one : w ≡ 1 = omega (arith, accepted_one s a) in
      (omega arith, omega (arith, one_byte a (omega arith)))

-- a number that fits a byte is its first byte, and has a second where that is at least 128
module _ (s : List ℕ) (at : ℕ) (f : FoundByte (number_at s at)) where
  pub byte_here : at < length s
  byte_here = let (v, n, e, h) = f in omega (arith, number_past s at v n e)

  module _ (b : get_or s at 0 < 256) where
    pub byte_read : number_at s at ≡ got (get_or s at 0) (at + 1 + get_or s at 0 / 128)
    byte_read =
        let (v, n, e, h) = f in
        let k = first_byte (number_accepted s at v n e) h b in
        rw (← k.1, ← k.0) e

    pub byte_past : at + 1 + get_or s at 0 / 128 ≤ length s
    byte_past = omega (arith, number_past s at _ _ byte_read)

-- ---- a cell

-- a column whose numbers fit a byte
module _ (s : List ℕ) (at : ℕ) (c : Column) {low end : ℕ} (range : range_of c ≡ Some (low, end)) (byte : end ≤ 256) where
  cell_number : (v n : ℕ) → cell_at c s at ≡ got v n → (number_at s at ≡ got v n) × (v < 256)
  cell_number v n e =
      let field = sym ((range_some c range).0 s at) ∙ e in
      (field_number s at low end v n field, omega (arith, field_got s at low end v n field))

  pub cell_found : Found (cell_at c s at) → FoundByte (number_at s at)
  cell_found (v, n, e) = let k = cell_number v n e in (v, n, k.0, k.1)

  pub cell_kept : Found (cell_at c s at) → {to : ℕ} {d d' : List ℕ} {r : ℕ} → CellKept (number_at s at) to d d' r → CellKept (cell_at c s at) to d d' r
  cell_kept (v, n, e) k = record { value = k.value; was = e ∙ sym (cell_number v n e).0 ∙ k.was; held = k.held }

pub absent_kept : (s : List ℕ) (at : ℕ) (c : Column) → range_of c ≡ None → {to : ℕ} {d : List ℕ} → CellKept (cell_at c s at) to d (set d to 0) at
unfolding cell_at
absent_kept s at (Within low most) q = never (cc)
absent_kept s at (Below end) q = never (cc)
absent_kept s at Absent q = record { value = 0; was = refl; held = refl }

-- ---- a row

row_found : (c : Column) (cs : List Column) (s : List ℕ) (p : ℕ) → Found (row_at (c ∷ cs) s p)
    → (v : ℕ) × (n : ℕ) × (cell_at c s p ≡ got v n) × Found (row_at cs s n)
unfolding row_at
row_found c cs s p (r, m, e) =
    let k = parts (cell_at c s p) _ r m e in
    let q = pushed k.first (row_at cs s k.place) r m k.rest in
    (k.first, k.place, k.was, (q.rest, m, q.was))

pub record Midway (cs : List Column) (s : List ℕ) (at base : ℕ) (d₀ d : List ℕ) (p j : ℕ) : Type 0 where
  pub five : length cs ≡ 5
  pub done : List ℕ
  pub many : length done ≡ j
  pub found : Found (row_at (drop j cs) s p)
  pub same : row_at cs s at ≡ onward done (row_at (drop j cs) s p)
  pub held : d ≡ sets d₀ base done

module _ {cs : List Column} {s : List ℕ} {at base : ℕ} {d₀ : List ℕ} where
  pub mid_start : length cs ≡ 5 → Found (row_at cs s at) → Midway cs s at base d₀ d₀ at 0
  mid_start five f = record { five = five; done = []; many = refl; found = f; same = onward_none _; held = refl }

  module _ {d : List ℕ} {p j : ℕ} (m : Midway cs s at base d₀ d p j) where
    pub mid_long : length d ≡ length d₀
    mid_long = ap length m.held ∙ length-sets d₀ base m.done

    module _ (h : j < 5) where
      next_column : drop j cs ≡ column_at cs j ∷ drop (suc j) cs
      next_column = drop_column cs j (omega (arith, m.five))

      next_found : (v : ℕ) × (n : ℕ) × (cell_at (column_at cs j) s p ≡ got v n) × Found (row_at (drop (suc j) cs) s n)
      next_found = row_found (column_at cs j) (drop (suc j) cs) s p (rw next_column at m.found)

      pub mid_cell : Found (cell_at (column_at cs j) s p)
      mid_cell = let k = next_found in (k.0, k.1, k.2)

      pub mid_more : {to : ℕ} {d' : List ℕ} {n : ℕ} → to ≡ base + j → CellKept (cell_at (column_at cs j) s p) to d d' n
          → Midway cs s at base d₀ d' n (j + 1)
      mid_more {to} {d'} {n} place k =
          let c = column_at cs j in
          let (v, n', e, f) = next_found in
          let there : n' ≡ n = cc in
          let v = k.value in
          record {
            five = m.five;
            done = m.done ++ (v ∷ []);
            many = length-append m.done (v ∷ []) ∙ ap (λ (i : ℕ). i + 1) m.many;
            found = rw (add-one j, ← there) f;
            same = m.same ∙ rw (next_column, row_step c _ _ _ k.was, add-one j) (onward_push m.done v (row_at (drop (suc j) cs) s n));
            held = k.held ∙ rw (place, m.held, ← m.many) (sets_append m.done (v ∷ []) d₀ base);
          }

  pub mid_end : {d : List ℕ} {p j : ℕ} → Midway cs s at base d₀ d p j → j ≡ 5 → RowKept (row_at cs s at) base d₀ d p
  mid_end {d} {p} {j} m e =
      let last : drop j cs ≡ [] = rw (e, ← m.five) (drop-length cs) in
      record { cells = m.done; was = m.same ∙ rw (last, row_none, append-nil); held = m.held }
