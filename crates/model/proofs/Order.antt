-- The order of witnesses: each is no larger than itself, two of which each is no larger than the other are one, and the smaller has the
-- smaller row or the same. Of two of one length one is no larger than the other.
use mathlib.Core.Path.{◌≡◌, refl, ap₂, ◌∙◌}
use mathlib.Core.Logic.{◌⊎◌, inl, inr, ⊎_elim}
use mathlib.Core.List.{List, [], ◌∷◌}
use Prim.Native.Nat.{ℕ, ◌≤◌, ◌<◌}
use native.Mathlib.Decide.{dec_lt}
use native.Mathlib.Omega.{arith}
use lib.ListN.{length}
use Rattle.model.specs.Errors.{Witness}
use Rattle.model.specs.Verdict.{◌≼◌, end, less, more, numbers}

pub ≼_refl : (xs : List ℕ) → xs ≼ xs
≼_refl [] = end
≼_refl (x ∷ xs) = more refl (≼_refl xs)

pub ≼-antisym : {xs ys : List ℕ} → xs ≼ ys → ys ≼ xs → xs ≡ ys
≼-antisym end end = refl
≼-antisym (less h) (less h') = absurd (omega arith)
≼-antisym (less h) (more e p) = absurd (omega arith)
≼-antisym (more e p) (less h) = absurd (omega arith)
≼-antisym (more e p) (more e' p') = ap₂ (λ x xs. x ∷ xs) e (≼-antisym p p')

pub ≼_trans : {xs ys zs : List ℕ} → xs ≼ ys → ys ≼ zs → xs ≼ zs
≼_trans end end = end
≼_trans (less {x = x} h) (less {y = z} h') = let l : x < z = omega arith in less l
≼_trans (less {x = x} h) (more {y = z} e q) = let l : x < z = omega arith in less l
≼_trans (more {x = x} e p) (less {y = z} h) = let l : x < z = omega arith in less l
≼_trans (more e p) (more e' q) = more (e ∙ e') (≼_trans p q)

pub ≼-total : (xs ys : List ℕ) → length xs ≡ length ys → (xs ≼ ys) ⊎ (ys ≼ xs)
≼-total [] [] e = inl end
≼-total [] (y ∷ ys) e = absurd (omega arith)
≼-total (x ∷ xs) [] e = absurd (omega arith)
≼-total (x ∷ xs) (y ∷ ys) e = go (dec_lt x y) (dec_lt y x) (≼-total xs ys (omega arith))
  where
    go : Dec (x < y) → Dec (y < x) → (xs ≼ ys) ⊎ (ys ≼ xs) → ((x ∷ xs) ≼ (y ∷ ys)) ⊎ ((y ∷ ys) ≼ (x ∷ xs))
    go (yes h) _ _ = inl (less h)
    go (no h) (yes h') _ = inr (less h')
    go (no h) (no h') rest = ⊎_elim (λ p. inl (more (omega arith) p)) (λ p. inr (more (omega arith) p)) rest

pub head_le : {x y : ℕ} {xs ys : List ℕ} → (x ∷ xs) ≼ (y ∷ ys) → x ≤ y
head_le (less h) = omega arith
head_le (more e _) = omega arith

-- a witness is determined by its numbers
pub witness_by_numbers : (w v : Witness) → numbers w ≡ numbers v → w ≡ v
witness_by_numbers w v e =
    let r : w.row ≡ v.row = cc in
    let g : w.shared ≡ v.shared = cc in
    let l : w.locals ≡ v.locals = cc in
    λ i. record { row = r i; shared = g i; locals = l i }
