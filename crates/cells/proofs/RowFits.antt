-- What is known of a row that was read: each cell is in its column's range, there are as many as columns, and a reader is past it.
--     row_fits    a row that was read fits its columns
--     row_long    and has a cell for each
--     past_row_lem    a reader that reads it stands where the row ends
use mathlib.Core.Path.{◌≡◌, refl, sym, ap, subst, ◌∙◌}
use mathlib.Core.List.{List, [], ◌∷◌}
use Prim.Native.Nat.{ℕ, suc, ◌+◌, ◌≤◌, ◌<◌}
use native.Mathlib.Omega.{arith}
use lib.ListN.{length}
use Rattle.numbers.specs.Reading.{Out, got, bad}
use Rattle.numbers.proofs.ReadingLaws.{never, parts}
use Rattle.numbers.proofs.FieldLaws.{field_got}
use Rattle.reader.specs.declared.Reader.{Reader}
use Rattle.cells.specs.declared.columns.Column.{Column}
use Rattle.cells.specs.declared.columns.Column.TheVariants.{Within, Below, Absent}
use Rattle.cells.specs.Rows.{push, cell_at, row_at}
use Rattle.cells.specs.Passing.{past_row}
use Rattle.cells.proofs.RowLaws.{to, cell_past, past_step, past_none}

-- a number is in its column's range
abbrev pub CellFits : Column → ℕ → Type 0
CellFits (Within low most) v = (low ≤ v) × (v ≤ most)
CellFits (Below end) v = v < end
CellFits Absent v = v ≡ 0

-- so is each number of a row
pub data RowFits : List Column → List ℕ → Type 0 where
  none : RowFits [] []
  cell : {c : Column} {cs : List Column} {v : ℕ} {vs : List ℕ} → CellFits c v → RowFits cs vs → RowFits (c ∷ cs) (v ∷ vs)

cell_fits : (c : Column) (s : List ℕ) (at v n : ℕ) → cell_at c s at ≡ got v n → CellFits c v
unfolding cell_at
cell_fits (Within low most) s at v n e = let k = field_got s at low (most + 1) v n e in (k.0, omega arith)
cell_fits (Below end) s at v n e = (field_got s at 0 end v n e).1
cell_fits Absent s at v n e = cc

-- ---- what was read in front of the rest

pub record Pushed {A : Type 0} (a : A) (o : Out (List A)) (l : List A) (n : ℕ) : Type 0 where
  pub rest : List A
  pub was : o ≡ got rest n
  pub whole : l ≡ a ∷ rest

pub pushed : {A : Type 0} (a : A) (o : Out (List A)) (l : List A) (n : ℕ) → push a o ≡ got l n → Pushed a o l n
pushed a (got xs m) l n e = record { rest = xs; was = cc; whole = cc }
pushed a (bad r) l n e = never (cc)

-- ---- the row

pub row_fits : (cs : List Column) (s : List ℕ) (at : ℕ) (r : List ℕ) (n : ℕ) → row_at cs s at ≡ got r n → RowFits cs r
unfolding row_at
row_fits [] s at r n e = let q : [] ≡ r = cc in subst (RowFits []) q none
row_fits (c ∷ cs) s at r n e =
    let p = parts (cell_at c s at) _ r n e in
    let q = pushed p.first (row_at cs s p.place) r n p.rest in
    subst (RowFits (c ∷ cs)) (sym q.whole) (cell (cell_fits c s at p.first p.place p.was) (row_fits cs s p.place q.rest n q.was))

pub fits_long : {cs : List Column} {r : List ℕ} → RowFits cs r → length r ≡ length cs
fits_long none = refl
fits_long (cell f fs) = ap suc (fits_long fs)

pub row_long : (cs : List Column) (s : List ℕ) (at : ℕ) (r : List ℕ) (n : ℕ) → row_at cs s at ≡ got r n → length r ≡ length cs
row_long cs s at r n e = fits_long (row_fits cs s at r n e)

-- ---- the reader

pub past_row_lem : (cs : List Column) (r : Reader) (vs : List ℕ) (n : ℕ) → row_at cs r.src.now r.at ≡ got vs n → past_row cs r ≡ to r n
unfolding row_at
past_row_lem [] r vs n e = let place : r.at ≡ n = cc in past_none r ∙ ap (to r) place
past_row_lem (c ∷ cs) r vs n e =
    let p = parts (cell_at c r.src.now r.at) _ vs n e in
    let q = pushed p.first (row_at cs r.src.now p.place) vs n p.rest in
    past_step c cs r p.was ∙ ap (past_row cs) (cell_past c r p.was) ∙ past_row_lem cs (to r p.place) q.rest n q.was
