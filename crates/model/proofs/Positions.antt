-- Facts in range and positions below W are one to one, and fact_at is the inverse of pos. A position is a number in mixed digits: each digit
-- below its base, so a number of digits is below the product of the bases, and division and remainder give the digits back.
use mathlib.Core.Path.{◌≡◌, sym, ap, subst, ◌∙◌}
use mathlib.Core.Logic.{if_pos, if_neg}
use Prim.Native.Nat.{ℕ, zero, suc, ◌+◌, ◌-◌, ◌*◌, ◌/◌, ◌<◌}
use native.Mathlib.Nat.{mod-lt, div-add-mod', div-lt_iff_lt-mul}
use native.Mathlib.Decide.{dec_lt}
use native.Mathlib.Omega.{arith}
use lib.Arith.{digits_lt, digits_div, digits_mod}
use Rattle.files.specs.Table.{Table, Sound, W}
use Rattle.model.specs.Rules.{Fact, G, P, Q}
use Rattle.model.specs.Positions.{Fits, base_p, base_q, pos, at_g, at_p, at_q, fact_at}

module _ (T : Table) where
  -- ---- the facts of each kind, by number among their kind

  at_g_pos : (t g g' : ℕ) → g < T.G → g' < T.G → at_g T ((t * T.G + g) * T.G + g') ≡ G t g g'
  unfolding at_g
  at_g_pos t g g' h₁ h₂ = simp (digits_div, digits_mod)

  at_p_pos : (t g l g' l' : ℕ) → g < T.G → l < T.L → g' < T.G → l' < T.L
      → at_p T ((((t * T.G + g) * T.L + l) * T.G + g') * T.L + l') ≡ P t g l g' l'
  unfolding at_p
  at_p_pos t g l g' l' h₁ h₂ h₃ h₄ = simp (digits_div, digits_mod)

  at_q_pos : (t g l f g' l' : ℕ) → g < T.G → l < T.L → f < T.F → g' < T.G → l' < T.L
      → at_q T (((((t * T.G + g) * T.L + l) * T.F + f) * T.G + g') * T.L + l') ≡ Q t g l f g' l'
  unfolding at_q
  at_q_pos t g l f g' l' h₁ h₂ h₃ h₄ h₅ = simp (digits_div, digits_mod)

  lt_g : {t g g' : ℕ} → t < T.n → g < T.G → g' < T.G → (t * T.G + g) * T.G + g' < T.n * (T.G * T.G)
  lt_g a b c = omega (arith, digits_lt (digits_lt a b) c)

  lt_p : {t g l g' l' : ℕ} → t < T.n → g < T.G → l < T.L → g' < T.G → l' < T.L
      → (((t * T.G + g) * T.L + l) * T.G + g') * T.L + l' < T.n * (T.G * T.G) * (T.L * T.L)
  lt_p a b c d e = omega (arith, digits_lt (digits_lt (digits_lt (digits_lt a b) c) d) e)

  lt_q : {t g l f g' l' : ℕ} → t < T.n → g < T.G → l < T.L → f < T.F → g' < T.G → l' < T.L
      → ((((t * T.G + g) * T.L + l) * T.F + f) * T.G + g') * T.L + l' < T.n * (T.G * T.G) * (T.L * T.L) * T.F
  lt_q a b c d e f = omega (arith, digits_lt (digits_lt (digits_lt (digits_lt (digits_lt a b) c) d) e) f)

  -- ---- the position of a fact in range

  pub pos_lt : (f : Fact) → Fits T f → pos T f < W T
  unfolding pos W base_p base_q
  pos_lt (G t g g') (a, b, c) = omega (arith, lt_g a b c)
  pos_lt (P t g l g' l') (a, b, c, d, e) = omega (arith, lt_p a b c d e)
  pos_lt (Q t g l f g' l') (a, b, c, d, e, h) = omega (arith, lt_q a b c d e h)

  -- the three parts of the positions
  fact_at_G : (p : ℕ) → p < base_p T → fact_at T p ≡ at_g T p
  unfolding fact_at
  fact_at_G p h = if_pos (dec_lt _ _) h _ _

  fact_at_P : (q : ℕ) → q < T.n * (T.G * T.G) * (T.L * T.L) → fact_at T (base_p T + q) ≡ at_p T q
  unfolding fact_at base_p base_q
  fact_at_P q h = if_neg (dec_lt _ _) (omega arith) _ _ ∙ if_pos (dec_lt _ _) (omega arith) _ _ ∙ ap (at_p T) (omega arith)

  fact_at_Q : (q : ℕ) → fact_at T (base_q T + q) ≡ at_q T q
  unfolding fact_at base_p base_q
  fact_at_Q q = if_neg (dec_lt _ _) (omega arith) _ _ ∙ if_neg (dec_lt _ _) (omega arith) _ _ ∙ ap (at_q T) (omega arith)

  pub fact_at_pos : (f : Fact) → Fits T f → fact_at T (pos T f) ≡ f
  unfolding pos base_p
  fact_at_pos (G t g g') (a, b, c) = fact_at_G _ (lt_g a b c) ∙ at_g_pos t g g' b c
  fact_at_pos (P t g l g' l') (a, b, c, d, e) = fact_at_P _ (lt_p a b c d e) ∙ at_p_pos t g l g' l' b c d e
  fact_at_pos (Q t g l f g' l') (a, b, c, d, e, h) = fact_at_Q _ ∙ at_q_pos t g l f g' l' b c d e h

  -- two facts in range at one position are one fact
  pub pos_inj : (f f' : Fact) → Fits T f → Fits T f' → pos T f ≡ pos T f' → f ≡ f'
  pos_inj f f' h h' e = sym (fact_at_pos f h) ∙ ap (fact_at T) e ∙ fact_at_pos f' h'

-- ---- every position below W is a fact's

-- f is in range and stands at position p
pub record Stands (T : Table) (p : ℕ) (f : Fact) : Type 0 where
  pub fits : Fits T f
  pub here : pos T f ≡ p

-- a product above something has no factor 0
pub right_pos : (m c : ℕ) {q : ℕ} → q < m * c → zero < c
right_pos m zero h = omega arith
right_pos m (suc c) h = omega arith

-- what is left of a number below m * c when its last digit is taken off
high : {q m c : ℕ} → zero < c → q < m * c → q / c < m
high hc h = (div-lt_iff_lt-mul hc).1 h

module _ (T : Table) (hG : zero < T.G) (hL : zero < T.L) where
  stands_G : (q : ℕ) → q < T.n * (T.G * T.G) → Stands T q (at_g T q)
  unfolding pos at_g
  stands_G q h =
      let h₁ : q / T.G < T.n * T.G = high hG (omega arith) in
      record { fits = (high hG h₁, mod-lt _ hG, mod-lt _ hG); here = simp div-add-mod' }

  stands_P : (q : ℕ) → q < T.n * (T.G * T.G) * (T.L * T.L) → Stands T (base_p T + q) (at_p T q)
  unfolding pos at_p
  stands_P q h =
      let h₁ : q / T.L < T.n * T.G * T.L * T.G = high hL (omega arith) in
      record {
        fits = (high hG (high hL (high hG h₁)), mod-lt _ hG, mod-lt _ hL, mod-lt _ hG, mod-lt _ hL);
        here = simp div-add-mod';
      }

  stands_Q : (q : ℕ) → q < T.n * (T.G * T.G) * (T.L * T.L) * T.F → Stands T (base_q T + q) (at_q T q)
  unfolding pos at_q
  stands_Q q h =
      let hF : zero < T.F = right_pos _ T.F h in
      let h₁ : q / T.L < T.n * T.G * T.L * T.F * T.G = high hL (omega arith) in
      record {
        fits = (high hG (high hL (high hF (high hG h₁))), mod-lt _ hG, mod-lt _ hL, mod-lt _ hF, mod-lt _ hG, mod-lt _ hL);
        here = simp div-add-mod';
      }

  pub stands : (p : ℕ) → p < W T → Stands T p (fact_at T p)
  unfolding base_p base_q W
  stands p h = go (dec_lt p (base_p T)) (dec_lt p (base_q T))
    where
      go : Dec (p < base_p T) → Dec (p < base_q T) → Stands T p (fact_at T p)
      go (yes a) _ = rw (fact_at_G T p a) (stands_G p a)
      go (no a) (yes b) =
          let i : p - base_p T < T.n * (T.G * T.G) * (T.L * T.L) = omega arith in
          let e : base_p T + (p - base_p T) ≡ p = omega arith in
          subst (λ (x : ℕ). Stands T x (fact_at T x)) e (rw (fact_at_P T _ i) (stands_P _ i))
      go (no a) (no b) =
          let e : base_q T + (p - base_q T) ≡ p = omega arith in
          subst (λ (x : ℕ). Stands T x (fact_at T x)) e (rw (fact_at_Q T) (stands_Q _ (omega arith)))

module _ {T : Table} (sound : Sound T) where
  pub fact_at_stands : (p : ℕ) → p < W T → Stands T p (fact_at T p)
  fact_at_stands = stands T sound.G.0 sound.L.0

  -- two positions below W with one fact are one
  pub fact_at_inj : {p q : ℕ} → p < W T → q < W T → fact_at T p ≡ fact_at T q → p ≡ q
  fact_at_inj {p} {q} h h' e = sym (fact_at_stands p h).here ∙ ap (pos T) e ∙ (fact_at_stands q h').here
