-- Cells: what one fits, and the cell of a thread in row 0 and in a row of the file.
use mathlib.Core.Path.{◌≡◌, refl, ◌∙◌}
use mathlib.Core.Logic.{inl, inr, if_pos, if_neg}
use mathlib.Core.List.{List}
use Prim.Native.Nat.{ℕ, suc, ◌+◌}
use native.Mathlib.Decide.{ℕ_discrete}
use native.Mathlib.Omega.{arith}
use Rattle.model.specs.Errors.{Cell}
use Rattle.reaching.specs.Reaching.{row_cell, asked_cell}

pub cell_eq : {c d l : ℕ} → c ≡ d → Cell d l → Cell c l
cell_eq e (inl h) = inl (e ∙ h)
cell_eq e (inr h) = inr (e ∙ h)

-- a cell that is not 0 fits one store
pub cell_one : {c k l : ℕ} → c ≡ suc k → Cell c l → l ≡ k
cell_one e (inl h) = absurd (omega arith)
cell_one e (inr h) = omega arith

-- ---- the cells of a row

module _ (failed : ℕ) (rows : List ℕ) {row : ℕ} where
  pub own_cell : {u t : ℕ} → row ≡ 0 → t ≡ u → asked_cell failed rows row u t ≡ failed
  unfolding asked_cell
  own_cell {u} {t} z e = rw z (if_pos (ℕ_discrete t u) e failed 0)

  pub other_cell : {u t : ℕ} → row ≡ 0 → ¬ (t ≡ u) → asked_cell failed rows row u t ≡ 0
  unfolding asked_cell
  other_cell {u} {t} z n = rw z (if_neg (ℕ_discrete t u) n failed 0)

  pub file_cell : (u t : ℕ) {i : ℕ} → row ≡ suc i → asked_cell failed rows row u t ≡ row_cell rows i (1 + t)
  unfolding asked_cell
  file_cell u t z = rw z refl
