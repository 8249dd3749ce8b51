-- A row is refused where its first fault is. A number outside its column's range is refused at its place; and where the cells before one were read
-- and that one is refused, the row is, with the same refusal.
--     cell_outside        a number outside its column's range: 4, at its first byte
--     row_refused         what refuses a cell refuses its row, the cells before it being read
--     count_refused       what refuses a row of one column refuses the number in it
use mathlib.Core.Path.{◌≡◌, refl, ap, ◌∙◌}
use mathlib.Core.Logic.{inl, inr}
use mathlib.Core.List.{List, [], ◌∷◌, ◌++◌}
use Prim.Native.Nat.{ℕ, ◌+◌, ◌<◌}
use native.Mathlib.Decide.{dec_lt}
use native.Mathlib.Omega.{arith}
use Rattle.numbers.specs.declared.refusals.Refusal.{Refusal}
use Rattle.numbers.specs.declared.refusals.Refusal.TheVariants.{Outside}
use Rattle.numbers.specs.Reading.{Out, got, bad, number_at, field_at}
use Rattle.numbers.proofs.ReadingLaws.{never, parts}
use Rattle.numbers.proofs.FieldLaws.{field_low, field_high}
use Rattle.cells.specs.declared.columns.Column.{Column}
use Rattle.cells.specs.declared.columns.Column.TheVariants.{Within, Below, Absent}
use Rattle.cells.specs.Columns.{OutOf}
use Rattle.cells.specs.Rows.{push, cell_at, row_at}
use Rattle.cells.proofs.RowLaws.{row_none, row_step, row_stop}
use Rattle.cells.proofs.RowFits.{pushed}

module _ (s : List ℕ) (p : ℕ) {v n : ℕ} (q : number_at s p ≡ got v n) where
  high : (low most : ℕ) → most < v → Dec (v < low) → field_at s p low (most + 1) ≡ bad (Outside p)
  high low most h (yes l) = field_low s p low (most + 1) q l
  high low most h (no l) = field_high s p low (most + 1) q (omega arith) (omega arith)

  pub cell_outside : (c : Column) → OutOf c v → cell_at c s p ≡ bad (Outside p)
  unfolding cell_at
  cell_outside (Within low most) (inl h) = field_low s p low (most + 1) q h
  cell_outside (Within low most) (inr h) = high low most h (dec_lt v low)
  cell_outside (Below end) h = field_high s p 0 end q (omega arith) h
  cell_outside Absent h = absurd h

module _ (s : List ℕ) {x : Refusal} where
  pub row_refused : (before : List Column) (c : Column) (after : List Column) (at p : ℕ) {vs : List ℕ} → row_at before s at ≡ got vs p
      → cell_at c s p ≡ bad x → row_at (before ++ c ∷ after) s at ≡ bad x
  unfolding row_at
  row_refused [] c after at p e b = let here : at ≡ p = cc in row_stop c after s at (rw here b)
  row_refused (d ∷ before) c after at p {vs} e b =
      let k = parts (cell_at d s at) _ vs p e in
      let q = pushed k.first (row_at before s k.place) vs p k.rest in
      row_step d (before ++ c ∷ after) s at k.was ∙ ap (push k.first) (row_refused before c after k.place p q.was b)

  one_cell : (c : Column) (at : ℕ) (o : Out ℕ) → cell_at c s at ≡ o → row_at (c ∷ []) s at ≡ bad x → o ≡ bad x
  one_cell c at (got v n) e b = let g = row_step c [] s at e ∙ ap (push v) (row_none s n) in never (cc)
  one_cell c at (bad y) e b = let g = row_stop c [] s at e in cc

  -- a count is a row of one column
  pub count_refused : (low most at : ℕ) → row_at (Within low most ∷ []) s at ≡ bad x → field_at s at low (most + 1) ≡ bad x
  unfolding cell_at
  count_refused low most at = one_cell (Within low most) at (cell_at (Within low most) s at) refl
