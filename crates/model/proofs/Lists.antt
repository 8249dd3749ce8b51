-- Members of lists that are built: of one or two elements, of two lists together, of a list under a condition, and of a list for each
-- member of another. A law named from-… says where a member comes from, and one named to-… puts it in. And what stands at a number of a list.
use mathlib.Core.Path.{◌≡◌, refl, subst, subst⁻¹}
use mathlib.Core.Option.{some}
use mathlib.Core.Logic.{◌⊎◌, inl, inr}
use mathlib.Core.List.Memᴰ
use mathlib.Core.List.{
  List,
  [],
  ◌∷◌,
  ◌++◌,
  flat_map,
  Memᴰ,
}
use Prim.Native.Nat.{ℕ, zero, suc, ◌<◌}
use native.Mathlib.Omega.{arith}
use lib.ListN.{length, get_elem?}

module _ {A : Type 0} where
  pub mem_first : {x : A} {xs : List A} → Memᴰ x (x ∷ xs)
  mem_first = Memᴰ.head refl

  pub mem_second : {x y : A} {xs : List A} → Memᴰ y (x ∷ y ∷ xs)
  mem_second = Memᴰ.tail mem_first

module _ {A : Type 0} (C : A → Type 0) where
  -- what holds of each element holds of a member
  pub from_one : {x a : A} → C x → Memᴰ a (x ∷ []) → C a
  from_one c (Memᴰ.head e) = subst⁻¹ C e c
  from_one c (Memᴰ.tail m) = elim m [ ]

  pub from_two : {x y a : A} → C x → C y → Memᴰ a (x ∷ y ∷ []) → C a
  from_two c d (Memᴰ.head e) = subst⁻¹ C e c
  from_two c d (Memᴰ.tail m) = from_one d m

  pub from_cons : {x a : A} {xs : List A} → C x → ((a : A) → Memᴰ a xs → C a) → Memᴰ a (x ∷ xs) → C a
  from_cons c f (Memᴰ.head e) = subst⁻¹ C e c
  from_cons c f (Memᴰ.tail m) = f _ m

  -- and what holds of the members of two lists holds of the members of both together
  pub from_append : (xs ys : List A) {a : A} → ((a : A) → Memᴰ a xs → C a) → ((a : A) → Memᴰ a ys → C a)
      → Memᴰ a (xs ++ ys) → C a
  from_append xs ys {a} f g m = go (Memᴰ.append_cases xs m)
    where
      go : Memᴰ a xs ⊎ Memᴰ a ys → C a
      go (inl i) = f a i
      go (inr i) = g a i

module _ {A B : Type 0} where
  pub from_flat_map : (f : A → List B) (xs : List A) {b : B} → Memᴰ b (flat_map f xs)
      → (a : A) × Memᴰ a xs × Memᴰ b (f a)
  unfolding flat_map
  from_flat_map f [] m = elim m [ ]
  from_flat_map f (x ∷ xs) m =
      from_append (λ b. (a : A) × Memᴰ a (x ∷ xs) × Memᴰ b (f a)) (f x) (flat_map f xs)
      (λ b i. (x, mem_first, i)) (λ b i. let (a, j, k) = from_flat_map f xs i in (a, Memᴰ.tail j, k)) m

  pub to_flat_map : (f : A → List B) {a : A} {xs : List A} {b : B} → Memᴰ a xs → Memᴰ b (f a) → Memᴰ b (flat_map f xs)
  unfolding flat_map
  to_flat_map f {b} (Memᴰ.head e) m = Memᴰ.append_left _ (subst (λ (x : A). Memᴰ b (f x)) e m)
  to_flat_map f (Memᴰ.tail {x} i) m = Memᴰ.append_right (f x) (to_flat_map f i m)

  -- a list under a condition
  unfoldable pub only : Dec A → List B → List B
  only (yes _) xs = xs
  only (no _) xs = []

  pub from_only : (d : Dec A) {xs : List B} {b : B} → Memᴰ b (only d xs) → A × Memᴰ b xs
  unfolding only
  from_only (yes a) m = (a, m)
  from_only (no _) m = elim m [ ]

  pub to_only : (d : Dec A) {xs : List B} {b : B} → A → Memᴰ b xs → Memᴰ b (only d xs)
  unfolding only
  to_only (yes _) a m = m
  to_only (no n) a m = absurd (n a)

module _ {A B : Type 0} {C : A → Type 0} where
  -- for each member of xs at which a condition holds, the list that it gives
  unfoldable pub gather : ((a : A) → Dec (C a)) → (A → List B) → List A → List B
  unfolding only flat_map
  gather d f xs = flat_map (λ a. only (d a) (f a)) xs

  pub from_gather : (d : (a : A) → Dec (C a)) (f : A → List B) (xs : List A) {b : B} → Memᴰ b (gather d f xs)
      → (a : A) × Memᴰ a xs × C a × Memᴰ b (f a)
  unfolding gather
  from_gather d f xs m =
      let (a, i, n) = from_flat_map (λ a. only (d a) (f a)) xs m in
      let (c, o) = from_only (d a) n in
      (a, i, c, o)

  pub to_gather : (d : (a : A) → Dec (C a)) (f : A → List B) {xs : List A} {a : A} {b : B} → Memᴰ a xs → C a → Memᴰ b (f a)
      → Memᴰ b (gather d f xs)
  unfolding gather
  to_gather d f {a} i c m = to_flat_map (λ a. only (d a) (f a)) i (to_only (d a) c m)

-- ---- what stands at a number

-- there is no entry past the last
pub some_lt : {A : Type 0} (xs : List A) (i : ℕ) {a : A} → get_elem? xs i ≡ some a → i < length xs
some_lt [] i e = let z : ◌≡◌ {A = ℕ} 0 1 = cc in absurd (omega arith)
some_lt (x ∷ xs) zero e = omega arith
some_lt (x ∷ xs) (suc i) e = omega (arith, some_lt xs i e)
