-- Whether a fact is derivable: the derivable facts of a sound table can be listed. Begin with the start facts, and with every position still to be
-- looked at. If a position is missing, put its fact into the list and cross the position out; each time there are fewer positions, so this ends. If
-- none is missing, the list is closed with the start facts, so it has every derivable fact.
use mathlib.Core.Path.{◌≡◌, refl, ap, subst, subst⁻¹}
use mathlib.Core.Logic.{◌⊎◌, inl, inr, ⊎_elim}
use mathlib.Core.List.Memᴰ
use mathlib.Core.List.{List, ◌∷◌, map, Memᴰ}
use Prim.Native.Nat.{ℕ, zero, suc, ◌<◌}
use native.Mathlib.Decide.{map_dec}
use native.Mathlib.Omega.{arith}
use lib.ListN.{length}
use Rattle.files.specs.Table.{Table, Sound, W}
use Rattle.model.specs.Rules.{Fact, start_fact, Starts, Closed, Derives, start}
use Rattle.model.specs.Positions.{fact_at}
use Rattle.model.specs.Claims.{Missing}
use Rattle.model.proofs.Lists.{mem_first, from_cons}
use Rattle.model.proofs.Monotone.{yields_mono}
use Rattle.model.proofs.Least.{derives_closed, least}
use Rattle.model.proofs.InRange.{derives_fits}
use Rattle.model.proofs.Claims.{none_missing_closed}
use Rattle.model.proofs.Decide.{member?, up_to, up_to_lt, lt_up_to, first_below, Enumerates}
use Rattle.model.proofs.Decide.Yields.{fact?}
use Rattle.model.proofs.Decide.Claims.{missing?}

-- ---- a list without one of its members

module _ {A : Type 0} {a : A} where
  without : {xs : List A} → Memᴰ a xs → List A
  without (Memᴰ.head {xs = xs} e) = xs
  without (Memᴰ.tail {x = x} m) = x ∷ without m

  without_shorter : {xs : List A} (m : Memᴰ a xs) → length xs ≡ suc (length (without m))
  unfolding without
  without_shorter (Memᴰ.head e) = refl
  without_shorter (Memᴰ.tail m) = ap suc (without_shorter m)

  -- every other member is still there
  without_others : {xs : List A} {b : A} (m : Memᴰ a xs) → Memᴰ b xs → (a ≡ b) ⊎ Memᴰ b (without m)
  unfolding without
  without_others (Memᴰ.head e) n = ⊎_elim (λ q. inl (subst⁻¹ (λ y. a ≡ y) q e)) inr (Memᴰ.cases_cons n)
  without_others (Memᴰ.tail m) n =
      ⊎_elim (λ q. inr (Memᴰ.head q)) (λ k. ⊎_elim inl (λ j. inr (Memᴰ.tail j)) (without_others m k)) (Memᴰ.cases_cons n)

-- ---- the list grows

module _ {T : Table} (sound : Sound T) where
  -- the start facts are in the list, its facts are derivable, and each position is still left, or its fact is in the list
  record Grown (fs : List Fact) (left : List ℕ) : Type 0 where
    starts : Starts T (λ f. Memᴰ f fs)
    derives : (f : Fact) → Memᴰ f fs → Derives T f
    covers : (p : ℕ) → p < W T → Memᴰ (fact_at T p) fs ⊎ Memᴰ p left

  begun : Grown (map (start_fact T) (up_to T.n)) (up_to (W T))
  begun =
      record {
        starts = λ t h. Memᴰ.map (start_fact T) (lt_up_to T.n h);
        derives = λ f m. let (t, i, e) = Memᴰ.of_map (start_fact T) (up_to T.n) m in subst (Derives T) e (start t (up_to_lt T.n i));
        covers = λ p l. inr (lt_up_to (W T) l);
      }

  module _ {fs : List Fact} {left : List ℕ} (g : Grown fs left) where
    -- a missing position is left; its fact comes into the list
    is_left : {p : ℕ} → Missing T (λ f. Memᴰ f fs) p → Memᴰ p left
    is_left {p} m = ⊎_elim (λ i. absurd (m.not i)) (λ i. i) (g.covers p m.below)

    grows : {p : ℕ} → Missing T (λ f. Memᴰ f fs) p → (i : Memᴰ p left) → Grown (fact_at T p ∷ fs) (without i)
    grows {p} m i =
        record {
          starts = λ t h. Memᴰ.tail (g.starts t h);
          derives = λ f. from_cons (Derives T) (derives_closed T (fact_at T p) (yields_mono g.derives (fact_at T p) m.yields)) g.derives;
          covers = λ q l. ⊎_elim (λ j. inl (Memᴰ.tail j)) (λ j. ⊎_elim here inr (without_others i j)) (g.covers q l);
        }
      where
        here : {q : ℕ} {A : Type 0} → p ≡ q → Memᴰ (fact_at T q) (fact_at T p ∷ fs) ⊎ A
        here e = inl (subst (λ q. Memᴰ (fact_at T q) (fact_at T p ∷ fs)) e mem_first)

    -- if none is missing, the list has every derivable fact
    full : ((p : ℕ) → p < W T → ¬ Missing T (λ f. Memᴰ f fs) p) → Enumerates (Derives T) fs
    full none f = (least (record { starts = g.starts; closed = closed }) f, g.derives f)
      where
        closed : Closed T (λ f. Memᴰ f fs)
        closed = none_missing_closed sound (λ f m. derives_fits sound f (g.derives f m)) (λ f i. member? fact? f fs) none

  abbrev Facts : Type 0
  Facts = (fs : List Fact) × Enumerates (Derives T) fs

  -- on with one position less, or the list is full
  go_on : {fs : List Fact} {left : List ℕ} → Grown fs left
      → ((fs' : List Fact) (left' : List ℕ) → length left ≡ suc (length left') → Grown fs' left' → Facts) → Facts
  go_on {fs} g next =
      ⊎_elim (λ (p, f). let i = is_left g f.here in next (fact_at T p ∷ fs) (without i) (without_shorter i) (grows g f.here i))
      (λ none. (fs, full g none)) (first_below (missing? T fs) (W T))

  -- k positions are left
  grow : (k : ℕ) (fs : List Fact) (left : List ℕ) → length left ≡ k → Grown fs left → Facts
  grow zero fs left e g = go_on g (λ fs' left' shorter g'. absurd (omega arith))
  grow (suc k) fs left e g = go_on g (λ fs' left' shorter g'. grow k fs' left' (omega arith) g')

  -- ---- the derivable facts

  pub facts_listed : (fs : List Fact) × Enumerates (Derives T) fs
  facts_listed = grow (length (up_to (W T))) _ (up_to (W T)) refl begun

  pub derives? : (f : Fact) → Dec (Derives T f)
  derives? f = let (fs, listed) = facts_listed in map_dec (listed f).1 (listed f).0 (member? fact? f fs)
