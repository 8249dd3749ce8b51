-- The rows of a list that was read, as records and as cells: a record of a row gives the row's cells back, whatever kind of row it is.
--     step_back, …, error_back          the cells of a row's record are the row
--     cells_back, rows_sound            so are the cells of a list's records, and the records are sound rows
use mathlib.Core.Path.{◌≡◌, refl, sym, ap, ap₂, subst⁻¹}
use mathlib.Core.List.{List, [], ◌∷◌, map, Memᴰ}
use Prim.Native.Nat.{ℕ, zero, suc, ◌≤◌}
use native.Mathlib.Omega.{arith}
use borrow.Author.Tests.{le-ltb}
use lib.ListN.{length, get_or, take}
use Rattle.cells.specs.declared.columns.Column.{Column}
use Rattle.cells.specs.declared.columns.Sizes.{Sizes}
use Rattle.lists.specs.Order.{Above, none, row}
use Rattle.files.specs.Table.{Rows, step_cells, push_cells, pop_cells, error_cells}
use Rattle.cells.specs.Columns.{of_thread, step_columns, push_columns, pop_columns, error_columns}
use Rattle.files.specs.File.{step_of, push_of, pop_of, error_of}
use Rattle.cells.proofs.RowMemory.{five_cells}
use Rattle.cells.proofs.RowFits.{CellFits, RowFits, cell, none as end, fits_long}
use Rattle.lists.proofs.ListFits.{Good, last, more}

-- ---- a row's record gives its cells back

module _ (z : Sizes) (r : List ℕ) where
  pub step_back : RowFits (step_columns z) r → step_cells (step_of r) ≡ r
  step_back f = sym (five_cells r (fits_long f))

  pub push_back : RowFits (push_columns z) r → push_cells (push_of r) ≡ r
  push_back f = sym (five_cells r (fits_long f))

  pub pop_back : RowFits (pop_columns z) r → pop_cells (pop_of r) ≡ r
  pop_back f = sym (five_cells r (fits_long f))

-- the cell of a thread that is not there is 0
pub no_thread : (n t : ℕ) (c : Column) (v : ℕ) → CellFits (of_thread n t c) v → n ≤ t → v ≡ 0
no_thread n t c v f h = rw (le-ltb t n h) at f

-- the cells of n threads, where the others are 0
pub take_cell : (n t : ℕ) (xs : List ℕ) → (n ≤ t → get_or xs t 0 ≡ 0) → get_or (take n xs) t 0 ≡ get_or xs t 0
take_cell zero t xs h = sym (h (omega arith))
take_cell (suc n) t [] h = refl
take_cell (suc n) zero (x ∷ xs) h = refl
take_cell (suc n) (suc t) (x ∷ xs) h = take_cell n t xs (λ i. h (omega arith))

pub error_back : (z : Sizes) (r : List ℕ) → RowFits (error_columns z) r → error_cells (error_of z.threads r) ≡ r
error_back z r (cell {v = g} _ (cell {v = a} fa (cell {v = b} fb (cell {v = c} fc (cell {v = d} fd end))))) =
    let xs : List ℕ = a ∷ b ∷ c ∷ d ∷ [] in
    let e₀ = take_cell n 0 xs (no_thread n 0 _ a fa) in
    let e₁ = take_cell n 1 xs (no_thread n 1 _ b fb) in
    let e₂ = take_cell n 2 xs (no_thread n 2 _ c fc) in
    let e₃ = take_cell n 3 xs (no_thread n 3 _ d fd) in
    rw (e₀, e₁, e₂, e₃)
  where
    n : ℕ
    n = z.threads

-- ---- a list's records

pub map_long : {A B : Type 0} (f : A → B) (xs : List A) → length (map f xs) ≡ length xs
map_long f [] = refl
map_long f (x ∷ xs) = ap suc (map_long f xs)

module _ {A : Type 0} (of : List ℕ → A) (cells : A → List ℕ) (cs : List Column) (back : (r : List ℕ) → RowFits cs r → cells (of r) ≡ r) where
  pub cells_back : {old : List ℕ} {rs : List (List ℕ)} → Good cs old rs → map cells (map of rs) ≡ rs
  cells_back last = refl
  cells_back (more {r} f b g) = ap₂ (λ (x : List ℕ) (xs : List (List ℕ)). x ∷ xs) (back r f) (cells_back g)

  good_above : {old : List ℕ} {rs : List (List ℕ)} → Good cs old rs → Above old rs
  good_above last = none
  good_above (more f b g) = row b (good_above g)

  module _ (Fits : A → Type 0) (fits : (r : List ℕ) → RowFits cs r → Fits (of r)) where
    each_fits : {old : List ℕ} {rs : List (List ℕ)} → Good cs old rs → (a : A) → Memᴰ a (map of rs) → Fits a
    each_fits (last {old = old}) a x4 = elim x4 [ ]
    each_fits (more {r} f b g) a (Memᴰ.head e) = subst⁻¹ Fits e (fits r f)
    each_fits (more f b g) a (Memᴰ.tail m) = each_fits g a m

    pub rows_sound : {most : ℕ} {rs : List (List ℕ)} → Good cs [] rs → length rs ≤ most → Rows most Fits cells (map of rs)
    rows_sound {most} {rs} g m =
        record {
          count = omega (arith, map_long of rs);
          fits = each_fits g;
          ascending = rw (cells_back g) (good_above g);
        }
