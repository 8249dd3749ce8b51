-- The laws of marks. A mark that was put is there, and no other mark comes or goes; so the marks are 0 or 1 as before, and there is one
-- more. What model says of a memory through its marks (Marked, Bits, total) is said here by Has.
use mathlib.Core.Path.{◌≡◌, refl, sym, ap, ◌∙◌}
use mathlib.Core.Bool.{Bool, true, false}
use mathlib.Core.List.{List, ◌++◌}
use Prim.Native.Nat.{ℕ, zero, suc, ◌<◌, ◌≤◌}
use native.Mathlib.Decide.{ℕ_discrete}
use native.Mathlib.Omega.{arith}
use lib.Dec.{eqb}
use borrow.Author.Tests.{eqb-true, eqb-false}
use lib.ListN.{length, drop, replicate, length-set, length-replicate, get_or-replicate}
use lib.Seq.{get_or-set_same, get_or-set_other, ext_get_or, take_at, take_all, drop_at}
use Rattle.files.specs.Table.{Table}
use Rattle.model.specs.Rules.{Fact}
use Rattle.model.specs.Positions.{Fits, pos}
use Rattle.model.specs.Memory.{mark, Marked, total}
use Rattle.model.proofs.Memory.{unmarked}
use Rattle.store.specs.Marking.{room, Has, marked, Clear, Is}
use Rattle.store.specs.Clearing.{Cleared}

-- ---- the answer of a test

pub is_true : {A : Type 0} (r : Bool) → Is A r → r ≡ true → A
is_true true a e = a
is_true false a e = let z : ◌≡◌ {A = ℕ} 0 1 = cc in absurd (omega arith)

pub is_false : {A : Type 0} (r : Bool) → Is A r → r ≡ false → ¬ A
is_false false a e = a
is_false true a e = let z : ◌≡◌ {A = ℕ} 0 1 = cc in absurd (omega arith)

module _ (m : List ℕ) (p : ℕ) where
  pub has? : Dec (Has m p)
  unfolding Has
  has? = ℕ_discrete (mark m p) 1

  pub has_test : Is (Has m p) (eqb (mark m p) 1)
  unfolding Has
  has_test = go (eqb (mark m p) 1) refl
    where
      go : (r : Bool) → eqb (mark m p) 1 ≡ r → Is (mark m p ≡ 1) r
      go true e = eqb-true _ _ e
      go false e = eqb-false _ _ e

-- ---- a mark is put

module _ (m : List ℕ) (y : ℕ) where
  pub put_room : room (marked m y) ≡ room m
  unfolding marked
  put_room = length-set m y 1

  mark_here : y < room m → mark (marked m y) y ≡ 1
  unfolding marked
  mark_here l = get_or-set_same m y 1 0 l

  mark_elsewhere : (p : ℕ) → (p ≡ y → ⊥) → mark (marked m y) p ≡ mark m p
  unfolding marked
  mark_elsewhere p n = get_or-set_other m y p 1 0 n

  pub has_put : y < room m → Has (marked m y) y
  unfolding Has
  has_put = mark_here

  -- a mark elsewhere was there before
  pub has_before : (p : ℕ) → (p ≡ y → ⊥) → Has (marked m y) p → Has m p
  unfolding Has
  has_before p n h = sym (mark_elsewhere p n) ∙ h

  -- a mark stays
  pub has_kept : (p : ℕ) → y < room m → Has m p → Has (marked m y) p
  unfolding Has
  has_kept p l h = go (ℕ_discrete p y)
    where
      go : Dec (p ≡ y) → Has (marked m y) p
      go (yes e) = rw e (mark_here l)
      go (no n) = mark_elsewhere p n ∙ h

-- ---- how many marks there are, of a memory whose first w marks are 0 or 1

-- the first w marks are 0 or 1; with W for w this is model's Bits
abbrev pub BitsTo : ℕ → List ℕ → Type 0
BitsTo w m = (p : ℕ) → p < w → mark m p ≤ 1

module _ (m : List ℕ) where
  pub bits_put : {w : ℕ} (y : ℕ) → y < room m → BitsTo w m → BitsTo w (marked m y)
  bits_put y l b p h = go (ℕ_discrete p y)
    where
      go : Dec (p ≡ y) → mark (marked m y) p ≤ 1
      go (yes e) = rw e (omega (arith, mark_here m y l))
      go (no n) = omega (arith, mark_elsewhere m y p n, b p h)

  -- a mark put at y is not seen below y
  total_below : (y w : ℕ) → w ≤ y → total (marked m y) w ≡ total m w
  unfolding total
  total_below y zero l = refl
  total_below y (suc w) l = omega (arith, total_below y w (omega arith), mark_elsewhere m y w (omega arith))

  -- a mark put where there was none is one more
  pub total_put : (y w : ℕ) → y < room m → y < w → BitsTo w m → ¬ Has m y → total (marked m y) w ≡ suc (total m w)
  unfolding total Has
  total_put y zero r l b n = absurd (omega arith)
  total_put y (suc w) r l b n = go (ℕ_discrete y w) (λ i. total_put y w r i (λ p h. b p (omega arith)) n)
    where
      none : mark m y ≡ 0
      none = unmarked (mark m y) (b y l) n

      go : Dec (y ≡ w) → (y < w → total (marked m y) w ≡ suc (total m w)) → total (marked m y) (suc w) ≡ suc (total m (suc w))
      go (yes e) f =
          let here : mark (marked m y) w ≡ 1 = rw (sym e) (mark_here m y r) in
          let was : mark m w ≡ 0 = rw (sym e) none in
          omega (arith, total_below y w (omega arith))
      go (no d) f = omega (arith, f (omega arith), mark_elsewhere m y w (λ e. d (sym e)))

-- ---- a clear memory

-- zeros are a clear memory
pub zeros_clear : {m : List ℕ} (w : ℕ) → m ≡ replicate w 0 → Clear m
zeros_clear w e p h =
    let l : room (replicate w 0) ≡ w = length-replicate w 0 in
    ap (λ (k : List ℕ). mark k p) e ∙ get_or-replicate w p 0 0 (omega (arith, h, ap room e))

module _ (m : List ℕ) (clear : Clear m) where
  pub clear_none : (p : ℕ) → p < room m → ¬ Has m p
  unfolding Has
  clear_none p l h = omega (arith, clear p l)

  pub clear_bits : {w : ℕ} → w ≤ room m → BitsTo w m
  clear_bits r p l = omega (arith, clear p (omega arith))

  pub clear_total : (w : ℕ) → w ≤ room m → total m w ≡ 0
  unfolding total
  clear_total zero r = refl
  clear_total (suc w) r = omega (arith, clear_total w (omega arith), clear w r)

-- a clear memory is zeros
pub clear_zeros : (m : List ℕ) → Clear m → m ≡ replicate (length m) 0
clear_zeros m c =
    ext_get_or 0 m (replicate (length m) 0) (sym (length-replicate (length m) 0)) λ p h. c p h ∙ sym (get_or-replicate (length m) p 0 0 h)

-- w zeros before the bytes of a memory from w on
pub first_cleared : {part : List ℕ} (m : List ℕ) (w : ℕ) → part ≡ replicate w 0 → Cleared w m (part ++ drop w m)
first_cleared {part} m w e =
    let l : length part ≡ w = ap length e ∙ length-replicate w 0 in
    record { zeros = take_at part (drop w m) w l ∙ e; rest = drop_at part (drop w m) w l }

-- a memory whose marks are all among the first w, which are taken off, is clear
pub cleared_clear : {w : ℕ} {m : List ℕ} (m' : List ℕ) → room m' ≤ w → Cleared w m m' → Clear m'
cleared_clear {w} m' l c = zeros_clear w (sym (take_all w m' l) ∙ c.zeros)

-- ---- the facts that a memory marks

module _ {T : Table} {m : List ℕ} where
  pub marked_has : {f : Fact} → Marked T m f → Has m (pos T f)
  unfolding Has
  marked_has h = h.one

  pub has_marked : {x : ℕ} (f : Fact) → Fits T f → pos T f ≡ x → Has m x → Marked T m f
  unfolding Has
  has_marked f fits e h = record { fits = fits; one = ap (mark m) e ∙ h }
