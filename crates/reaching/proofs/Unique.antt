-- Two results that a contract allows are equal: for each public function, of its contract as the prover reads it from the source (`Post`).
use mathlib.Core.Path.{◌≡◌, refl, sym, ap, subst, ◌∙◌}
use mathlib.Core.List.{List}
use Prim.Native.Nat.{ℕ, ◌<◌}
use native.Mathlib.Omega.{arith}
use Rattle.std.proofs.Common.{Option, Some, None}
use Rattle.numbers.proofs.Unique.{same, Fixes}
use Rattle.model.specs.Errors.{Cell}
use Rattle.model.proofs.Unique.{first_same}
use Rattle.positions.specs.Plans.{Plan}
use Rattle.store.proofs.Unique.{is_unique}
use Rattle.reaching.specs.Reaching.{Least, Last, Picked, already, forced}
use Rattle.reaching.specs.Reaching.{row_cell, Reached, Aimed, no_failed, picked, unfit, fit}
use Rattle.reaching.proofs.row_cells.ErrorRows.aim.Reads as aim
use Rattle.reaching.proofs.row_cells.ErrorRows.aim.Kinds as aim-kinds
use Rattle.reaching.proofs.row_cells.ErrorRows.cell_of.Reads as cell-of
use Rattle.reaching.proofs.row_cells.ErrorRows.cell_of.Kinds as cell-of-kinds
use Rattle.reaching.proofs.reach.Facts.reached.Reads as reached
use Rattle.reaching.proofs.reach.Facts.reached.Kinds as reached-kinds
use Rattle.reaching.proofs.reach.cell_fits.Reads as cell_fits
use Rattle.reaching.proofs.reach.cell_fits.Kinds as cell-fits-kinds
use Rattle.reaching.proofs.reach.Facts.least.Reads as least
use Rattle.reaching.proofs.reach.Facts.least.Kinds as least-kinds

-- ---- what is said other than by an equation

some_same : {u u' : ℕ} → u ≡ u' → ◌≡◌ {A = Option ℕ} (Some u) (Some u')
some_same e = ap {B = Option ℕ} (λ (u : ℕ). Some u) e

pub least_unique : (A : ℕ → Type 0) (n : ℕ) (r r' : Option ℕ) → Least A n r → Least A n r' → r ≡ r'
least_unique A n None None h h' = refl
least_unique A n None (Some r') h (l, f') = absurd (h r' f'.here)
least_unique A n (Some r) None (l, f) h' = absurd (h' r f.here)
least_unique A n (Some r) (Some r') (l, f) (l', f') = some_same (first_same f f')

-- the smaller of two is below the other and in A, which the other rules out
last_unique : (A : ℕ → Type 0) (t : ℕ) (u u' : Option ℕ) → Last A t u → Last A t u' → u ≡ u'
last_unique A t None None h h' = refl
last_unique A t None (Some u') h (l, a, after) = absurd (h u' l a)
last_unique A t (Some u) None (l, a, after) h' = absurd (h' u l a)
last_unique A t (Some u) (Some u') (l, a, after) (l', a', after') =
    let no : ¬ (u < u') = λ x. after u' x l' a' in
    let no' : ¬ (u' < u) = λ x. after' u x l a in
    some_same (omega arith)

picked_unique : {R : ℕ → ℕ → Type 0} {n k : ℕ} {u u' : Option ℕ} → Picked R n k u → Picked R n k u' → u ≡ u'
picked_unique (already t e l f none) (already t' e' l' f' none') =
    let no : ¬ (t < t') = λ x. none' t x f in
    let no' : ¬ (t' < t) = λ x. none t' x f' in
    e ∙ some_same (omega arith) ∙ sym e'
picked_unique (already t e l f none) (forced x y) = absurd (x t l f)
picked_unique (forced x y) (already t e l f none) = absurd (x t l f)
picked_unique {u = u} {u'} (forced x y) (forced x' y') = last_unique _ _ u u' y y'

aimed_unique : {s : Plan} {failed : ℕ} {rows m : List ℕ} {row g : ℕ} {u u' : Option ℕ} → Aimed s failed rows m row g u
    → Aimed s failed rows m row g u' → u ≡ u'
aimed_unique (no_failed z f a) (no_failed z' f' a') = same a a'
aimed_unique (no_failed z f a) (picked k z' f' p) = absurd (omega arith)
aimed_unique (no_failed z f a) (unfit i r c a') = absurd (omega arith)
aimed_unique (no_failed z f a) (fit i r c a') = absurd (omega arith)
aimed_unique (picked k z f p) (no_failed z' f' a) = absurd (omega arith)
aimed_unique {s} {m = m} {g = g} {u' = u'} (picked k z f p) (picked k' z' f' p') =
    let e : k' ≡ k = omega arith in
    picked_unique p (subst (λ k. Picked (Reached s m g) s.n k u') e p')
aimed_unique (picked k z f p) (unfit i r c a) = absurd (omega arith)
aimed_unique (picked k z f p) (fit i r c a) = absurd (omega arith)
aimed_unique (unfit i r c a) (no_failed z f a') = absurd (omega arith)
aimed_unique (unfit i r c a) (picked k z f p) = absurd (omega arith)
aimed_unique (unfit i r c a) (unfit i' r' c' a') = same a a'
aimed_unique {rows = rows} {g = g} (unfit i r c a) (fit i' r' c' a') =
    let e : i' ≡ i = omega arith in
    absurd (c (subst (λ i. Cell (row_cell rows i 0) g) e c'))
aimed_unique (fit i r c a) (no_failed z f a') = absurd (omega arith)
aimed_unique (fit i r c a) (picked k z f p) = absurd (omega arith)
aimed_unique {rows = rows} {g = g} (fit i r c a) (unfit i' r' c' a') =
    let e : i ≡ i' = omega arith in
    absurd (c' (subst (λ i. Cell (row_cell rows i 0) g) e c))
aimed_unique (fit i r c a) (fit i' r' c' a') = same a a'

-- ---- the contracts as the prover reads them from the source

pub aim_fixes : Fixes aim-kinds.ps aim-kinds.r aim.Post
aim_fixes κs a x x' s s' = aimed_unique

pub cell_of_fixes : Fixes cell-of-kinds.ps cell-of-kinds.r cell-of.Post
cell_of_fixes κs a x x' s s' = same

pub reached_fixes : Fixes reached-kinds.ps reached-kinds.r reached.Post
reached_fixes κs a x x' s s' = is_unique _ x x'

pub cell_fits_fixes : Fixes cell-fits-kinds.ps cell-fits-kinds.r cell_fits.Post
cell_fits_fixes κs a x x' s s' = is_unique _ x x'

pub least_fixes : Fixes least-kinds.ps least-kinds.r least.Post
least_fixes κs a x x' s s' = least_unique _ _ x x'
