-- What joins uses at positions with uses of the rules: a use of a set from marks, and a fact that a rule yields from marked facts. On the way
-- from the rules, `Used` goes up from a set to the sets that it is part of; on the way back, the facts of a stretch stand at its places.
use mathlib.Core.Path.{◌≡◌, sym, ◌∙◌}
use mathlib.Core.Logic.{inl, inr}
use mathlib.Core.List.{List}
use Prim.Native.Nat.{ℕ, ◌+◌, ◌*◌, ◌/◌, ◌%◌, ◌<◌}
use Rattle.files.specs.Table.{Table, Sound}
use Rattle.model.specs.Rules.{Fact, G, P, Q, Yields}
use Rattle.model.specs.Positions.{Fits, pos}
use Rattle.model.specs.Memory.{Marked}
use Rattle.model.proofs.Positions.{Stands}
use Rattle.store.specs.Marking.{Has}
use Rattle.positions.specs.Plans.{p_from, q_from, g_at, plan_of}
use Rattle.store.proofs.MarkLaws.{marked_has, has_marked}
use Rattle.positions.proofs.PlanIsModel.{pos_g, pos_p_from, pos_q_from, pair_fits}
use Rattle.uses.specs.Uses.{Uses, Single, Either, Upto, Lacks}

-- ---- from uses of the rules

-- a use of a set gives y from marks
pub record Used (A : ℕ → ℕ → ℕ → Type 0) (m : List ℕ) (y : ℕ) : Type 0 where
  pub q : ℕ
  pub x : ℕ
  pub given : A q x y
  pub has_q : Has m q
  pub has_x : Has m x

-- a use of set j of a sequence
pub upto_at : {A : ℕ → Uses} {n q x y : ℕ} (j : ℕ) → j < n → A j q x y → Upto A n q x y
upto_at j l u = record { k = j; lt = l; given = u }

-- from one marked fact
pub used-from : {T : Table} {A : Uses} {m : List ℕ} {y : ℕ} {f : Fact} → Marked T m f → A (pos T f) (pos T f) y → Used A m y
used-from h u = record { q = _; x = _; given = u; has_q = marked_has h; has_x = marked_has h }

pub used-to : {A B : Uses} {m : List ℕ} {y : ℕ} → ((q x : ℕ) → A q x y → B q x y) → Used A m y → Used B m y
used-to f u = record { q = u.q; x = u.x; given = f _ _ u.given; has_q = u.has_q; has_x = u.has_x }

module _ {A B : Uses} {m : List ℕ} {y : ℕ} where
  pub used-inl : Used A m y → Used (Either A B) m y
  used-inl = used-to (λ q x u. inl u)

  pub used-inr : Used B m y → Used (Either A B) m y
  used-inr = used-to (λ q x u. inr u)

-- and there is no mark at y
pub used-lacks : {A : Uses} {m : List ℕ} {y : ℕ} → Used A m y → ¬ Has m y → Lacks A m y
used-lacks u not = record { q = u.q; x = u.x; given = u.given; has_q = u.has_q; has_x = u.has_x; not = not }

-- ---- to uses of the rules

-- a fact that one use of a rule yields from the marked ones stands at y
pub record Yielded (T : Table) (m : List ℕ) (y : ℕ) : Type 0 where
  pub f : Fact
  pub fits : Fits T f
  pub here : pos T f ≡ y
  pub yields : Yields T (Marked T m) f

module _ {T : Table} {m : List ℕ} where
  -- the fact that stands at a mark is marked
  pub marked_at : {x x' : ℕ} {f : Fact} → Stands T x f → x' ≡ x → Has m x' → Marked T m f
  marked_at s e h = has_marked _ s.fits (s.here ∙ sym e) h

  -- the facts at x and y, of which the second follows by a rule from the first
  pub one_yields : {x y q x' y' : ℕ} {f f' : Fact} → Stands T x f → Stands T y f' → (Marked T m f → Yields T (Marked T m) f')
      → Single x y q x' y' → Has m x' → Yielded T m y'
  one_yields s s' rule u h =
      record { f = _; fits = s'.fits; here = s'.here ∙ sym u.2; yields = rule (marked_at s u.1 h) }

-- the places of facts: G facts, and those from pair a, in their stretch
pub g_stands : {T : Table} {t g g' : ℕ} → t < T.n → g < T.G → g' < T.G → Stands T (g_at (plan_of T) t g g') (G t g g')
g_stands {T} t g g' = record { fits = (t, g, g'); here = pos_g T _ _ _ }

module _ {T : Table} (sound : Sound T) where
  pub p_stands : {t a g l : ℕ} → t < T.n → a < T.G * T.L → g < T.G → l < T.L
      → Stands T (p_from (plan_of T) t a + (g * T.L + l)) (P t (a / T.L) (a % T.L) g l)
  p_stands t a g l = let p = pair_fits T sound a in record { fits = (t, p.0, p.1, g, l); here = pos_p_from T _ _ _ _ }

  pub q_stands : {t a f g l : ℕ} → t < T.n → a < T.G * T.L → f < T.F → g < T.G → l < T.L
      → Stands T (q_from (plan_of T) t a + f * (T.G * T.L) + (g * T.L + l)) (Q t (a / T.L) (a % T.L) f g l)
  q_stands t a f g l = let p = pair_fits T sound a in record { fits = (t, p.0, p.1, f, g, l); here = pos_q_from T _ _ _ _ _ }
