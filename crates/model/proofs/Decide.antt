-- Decisions by evaluation. A decision is a function into Dec, so it carries its own proof both ways; where it computes to yes, `decided`
-- gives what it decides. Whoever evaluates one names it, and nothing else, on the `unfolding` line:
--     unfolding verdict?
--     example = decided (verdict? T (omega arith) facts none) tt
-- This file has the parts: each member of a list, some member, each number below a bound, the smallest number. The files below it decide
-- what is said of the facts of a list: exact? of the least relations, verdict? of the verdict, finding? of a claim. The last two are not
-- evaluated but say what there is: Derivable, a list of the derivable facts of every sound table; Answered, a verdict and a finding.
pub mod Yields
pub mod Least
pub mod Errors
pub mod Claims
pub mod Derivable
pub mod Answered
use mathlib.Core.Path.{◌≡◌, refl, subst, subst⁻¹}
use mathlib.Core.Logic.Dec
use mathlib.Core.Logic.{◌↔◌, ◌⊎◌, inl, inr}
use mathlib.Core.List.Memᴰ
use mathlib.Core.List.{List, [], ◌∷◌, Memᴰ}
use Prim.Native.Nat.{ℕ, zero, suc, ◌<◌}
use native.Mathlib.Decide.{ℕ_discrete, map_dec}
use native.Mathlib.Omega.{arith}
use borrow.Author.Count.{below_more}
use Rattle.model.specs.Claims.{First}

abbrev pub Yes : {A : Type 0} → Dec A → Type 0
Yes (yes _) = Unit {0}
Yes (no _) = ⊥

pub decided : {A : Type 0} (d : Dec A) → Yes d → A
decided (yes a) y = a
decided (no _) y = absurd y

-- the members of the list are those of the set
abbrev pub Enumerates : {A : Type 0} → (A → Type 0) → List A → Type 0
Enumerates {A} S xs = (a : A) → S a ↔ Memᴰ a xs

-- ---- the members of a list

module _ {A : Type 0} {B : A → Type 0} (d : (a : A) → Dec (B a)) where
  pub each_cons : {x : A} {xs : List A} → B x × ((a : A) → Memᴰ a xs → B a) → (a : A) → Memᴰ a (x ∷ xs) → B a
  each_cons (b, bs) a (Memᴰ.head e) = subst⁻¹ B e b
  each_cons (b, bs) a (Memᴰ.tail m) = bs a m

  -- whether B holds of each member
  unfoldable pub each? : (xs : List A) → Dec ((a : A) → Memᴰ a xs → B a)
  unfolding Dec.and ℕ_discrete
  each? [] = yes (λ a m. elim m [ ])
  each? (x ∷ xs) = map_dec each_cons (λ h. (h x (Memᴰ.head refl), λ a m. h a (Memᴰ.tail m))) (Dec.and (d x) (each? xs))

  some_cons : {x a : A} {xs : List A} → ¬ B x → ¬ ((a : A) × Memᴰ a xs × B a) → Memᴰ a (x ∷ xs) → B a → ⊥
  some_cons n n' (Memᴰ.head e) b = n (subst B e b)
  some_cons n n' (Memᴰ.tail m) b = n' (_, m, b)

  -- whether B holds of some member
  some? : (xs : List A) → Dec ((a : A) × Memᴰ a xs × B a)
  some? [] = no (λ (a, m, b). elim m [ ])
  some? (x ∷ xs) = go (d x) (some? xs)
    where
      go : Dec (B x) → Dec ((a : A) × Memᴰ a xs × B a) → Dec ((a : A) × Memᴰ a (x ∷ xs) × B a)
      go (yes b) _ = yes (x, Memᴰ.head refl, b)
      go (no n) (yes (a, m, b)) = yes (a, Memᴰ.tail m, b)
      go (no n) (no n') = no (λ (a, m, b). some_cons n n' m b)

member? : {A : Type 0} → Discrete A → (a : A) (xs : List A) → Dec (Memᴰ a xs)
unfolding some? ℕ_discrete
member? d a xs = map_dec (λ (b, m, e). Memᴰ.cast e m) (λ m. (a, m, refl)) (some? (d a) xs)

-- ---- the numbers below a bound

up_to : ℕ → List ℕ
up_to zero = []
up_to (suc n) = n ∷ up_to n

up_to_lt : (n : ℕ) {t : ℕ} → Memᴰ t (up_to n) → t < n
unfolding up_to
up_to_lt zero {t = t} x' = elim x' [ ]
up_to_lt (suc n) (Memᴰ.head e) = omega arith
up_to_lt (suc n) (Memᴰ.tail m) = omega (arith, up_to_lt n m)

lt_up_to : (n : ℕ) {t : ℕ} → t < n → Memᴰ t (up_to n)
unfolding up_to
lt_up_to zero h = absurd (omega arith)
lt_up_to (suc n) {t} h = go (ℕ_discrete t n) (λ i. lt_up_to n i)
  where
    go : Dec (t ≡ n) → (t < n → Memᴰ t (up_to n)) → Memᴰ t (up_to (suc n))
    go (yes e) _ = Memᴰ.head e
    go (no ne) ih = Memᴰ.tail (ih (omega arith))

module _ {B : ℕ → Type 0} (d : (t : ℕ) → Dec (B t)) where
  all? : (n : ℕ) → Dec ((t : ℕ) → t < n → B t)
  unfolding up_to each?
  all? n = map_dec (λ h t i. h t (lt_up_to n i)) (λ h t m. h t (up_to_lt n m)) (each? d (up_to n))

  any? : (n : ℕ) → Dec ((t : ℕ) × (t < n) × B t)
  unfolding up_to some? ℕ_discrete
  any? n = map_dec (λ (t, m, b). (t, up_to_lt n m, b)) (λ (t, i, b). (t, lt_up_to n i, b)) (some? d (up_to n))

-- whether p is the smallest number of B
first? : {B : ℕ → Type 0} → ((t : ℕ) → Dec (B t)) → (p : ℕ) → Dec (First B p)
unfolding all? Dec.not
first? d p =
    map_dec (λ (h, n). record { here = h; none = n }) (λ f. (f.here, f.none)) (Dec.and (d p) (all? (λ q. Dec.not (d q)) p))

-- the smallest number of B, or none below a bound
first_below : {B : ℕ → Type 0} → ((t : ℕ) → Dec (B t)) → (n : ℕ) → ((p : ℕ) × First B p) ⊎ ((t : ℕ) → t < n → ¬ B t)
first_below d zero = inr (λ t h. absurd (omega arith))
first_below {B} d (suc n) = go (first_below d n) (d n)
  where
    go : ((p : ℕ) × First B p) ⊎ ((t : ℕ) → t < n → ¬ B t) → Dec (B n) → ((p : ℕ) × First B p) ⊎ ((t : ℕ) → t < suc n → ¬ B t)
    go (inl found) _ = inl found
    go (inr none) (yes b) = inl (n, record { here = b; none = none })
    go (inr none) (no c) = inr (λ t h. below_more (λ t. ¬ B t) n none c t (omega arith))
