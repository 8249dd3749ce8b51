-- Lists: when a list of numbers is no larger than another, and what stands in a list at a number.
use mathlib.Core.Path.{◌≡◌, refl}
use mathlib.Core.Option.{some}
use mathlib.Core.List.{List, [], ◌∷◌}
use Prim.Native.Nat.{ℕ, zero, suc, ◌≤◌, ◌<◌}
use native.Mathlib.Decide.{dec_lt}
use native.Mathlib.Omega.{arith}
use lib.ListN.{length, get_or, get_elem?, replicate}
use Rattle.model.specs.Verdict.{◌≼◌, end, less, more}

-- ---- the order

pub ≼-cons : {x y : ℕ} {xs ys : List ℕ} → x ≤ y → (x ≡ y → xs ≼ ys) → (x ∷ xs) ≼ (y ∷ ys)
≼-cons {x} {y} {xs} {ys} l rest = go (dec_lt x y)
  where
    go : Dec (x < y) → (x ∷ xs) ≼ (y ∷ ys)
    go (yes h) = less h
    go (no h) = let e : x ≡ y = omega arith in more e (rest e)

-- two lists have the same numbers before t
abbrev pub Agree : List ℕ → List ℕ → ℕ → Type 0
Agree xs ys t = (i : ℕ) → i < t → get_or xs i 0 ≡ get_or ys i 0

agree_cons : {x y : ℕ} (xs ys : List ℕ) {t : ℕ} → x ≡ y → Agree xs ys t → Agree (x ∷ xs) (y ∷ ys) (suc t)
agree_cons xs ys e same zero l = e
agree_cons xs ys e same (suc i) l = same i (omega arith)

-- a list is no larger than another if at each place before which they agree its number is no larger
pub ≼-where_agree : (xs ys : List ℕ) → length xs ≡ length ys
    → ((t : ℕ) → t < length xs → Agree xs ys t → get_or xs t 0 ≤ get_or ys t 0) → xs ≼ ys
≼-where_agree [] [] e h = end
≼-where_agree [] (y ∷ ys) e h = absurd (omega arith)
≼-where_agree (x ∷ xs) [] e h = absurd (omega arith)
≼-where_agree (x ∷ xs) (y ∷ ys) e h =
    ≼-cons (h 0 (omega arith) (λ i l. absurd (omega arith)))
    (λ q. ≼-where_agree xs ys (omega arith) (λ t l same. h (suc t) (omega arith) (agree_cons xs ys q same)))

-- ---- what stands at a number

module _ {A : Type 0} where
  pub some_get_or : (xs : List A) (i : ℕ) (d : A) {a : A} → get_elem? xs i ≡ some a → get_or xs i d ≡ a
  some_get_or [] i d e = let z : ◌≡◌ {A = ℕ} 0 1 = cc in absurd (omega arith)
  some_get_or (x ∷ xs) zero d e = cc
  some_get_or (x ∷ xs) (suc i) d e = some_get_or xs i d e

  pub get_d_some : (xs : List A) (i : ℕ) (d : A) → i < length xs → get_elem? xs i ≡ some (get_or xs i d)
  get_d_some [] i d l = absurd (omega arith)
  get_d_some (x ∷ xs) zero d l = refl
  get_d_some (x ∷ xs) (suc i) d l = get_d_some xs i d (omega arith)

pub get_or_zeros : (n i : ℕ) → ◌≡◌ {A = ℕ} (get_or (replicate n 0) i 0) 0
get_or_zeros zero i = refl
get_or_zeros (suc n) zero = refl
get_or_zeros (suc n) (suc i) = get_or_zeros n i
