-- A table's plan gives model's positions: each formula of the document, with pairs for places, is the plan's. Pairs are numbers below
-- k = G * L, so a fact from the pair j stands j * k places after the fact from pair 0.
use mathlib.Core.Path.{◌≡◌, refl, ap, ◌∙◌}
use Prim.Native.Nat.{ℕ, ◌+◌, ◌*◌, ◌/◌, ◌%◌, ◌<◌}
use native.Mathlib.Nat.{mod-lt, div-add-mod', div-lt_iff_lt-mul}
use native.Mathlib.Omega.{arith}
use Rattle.files.specs.Table.{Table, Sound, W, w_of}
use Rattle.model.specs.Rules.{G, P, Q}
use Rattle.model.specs.Positions.{base_p, base_q, pos}
use Rattle.files.proofs.WLaws.{W_max}
use Rattle.positions.specs.Plans.{Plan}
use Rattle.positions.specs.Plans.{Planned, p_at, p_from, q_from, g_at, plan_of}
use Rattle.positions.proofs.Places.{small}

module _ (T : Table) where
  abbrev s : Plan
  s = plan_of T

  abbrev K : ℕ
  K = T.G * T.L

  pub w_is : s.w ≡ W T
  unfolding W w_of
  w_is = omega arith

  pub pos_g : (t g g' : ℕ) → pos T (G t g g') ≡ g_at s t g g'
  unfolding pos
  pos_g t g g' = refl

  pub pos_p : (t a k g l : ℕ) → pos T (P t a k g l) ≡ p_at s t (g * T.L + l) + (a * T.L + k) * K
  unfolding pos base_p
  pos_p t a k g l = omega arith

  -- a fact stands in its stretch
  pub pos_p_stretch : (t a k g l : ℕ) → pos T (P t a k g l) ≡ p_from s t (a * T.L + k) + (g * T.L + l)
  unfolding pos base_p
  pos_p_stretch t a k g l = omega arith

  pub pos_q_stretch : (t a k f g l : ℕ) → pos T (Q t a k f g l) ≡ q_from s t (a * T.L + k) + f * K + (g * T.L + l)
  unfolding pos base_q
  pos_q_stretch t a k f g l = omega arith

  -- a number j is the pair of its two digits
  pub pair_digits : (j : ℕ) → j / T.L * T.L + j % T.L ≡ j
  pair_digits j = div-add-mod' j T.L

  -- the facts from pair j
  pub pos_p_from : (t j g l : ℕ) → pos T (P t (j / T.L) (j % T.L) g l) ≡ p_from s t j + (g * T.L + l)
  pos_p_from t j g l = pos_p_stretch t _ _ g l ∙ ap (λ z. p_from s t z + (g * T.L + l)) (pair_digits j)

  -- and by the pair where they end
  pub pos_p_to : (t j g l : ℕ) → pos T (P t (j / T.L) (j % T.L) g l) ≡ p_at s t (g * T.L + l) + j * K
  pos_p_to t j g l = pos_p t _ _ g l ∙ ap (λ z. p_at s t (g * T.L + l) + z * K) (pair_digits j)

  pub pos_q_from : (t j f g l : ℕ) → pos T (Q t (j / T.L) (j % T.L) f g l) ≡ q_from s t j + f * K + (g * T.L + l)
  pos_q_from t j f g l = pos_q_stretch t _ _ f g l ∙ ap (λ z. q_from s t z + f * K + (g * T.L + l)) (pair_digits j)

  module _ (sound : Sound T) where
    -- a number below K is a pair
    pub pair_fits : {j : ℕ} → j < K → (j / T.L < T.G) × (j % T.L < T.L)
    pair_fits h = ((div-lt_iff_lt-mul sound.L.0).1 h, mod-lt _ sound.L.0)

    -- a sound table's plan
    pub planned : Planned s
    planned =
        record {
          k = refl;
          p = refl;
          q = refl;
          w = refl;
          n_pos = sound.n.0;
          g_pos = sound.G.0;
          l_pos = sound.L.0;
          n_max = sound.n.1;
          g_max = sound.G.1;
          l_max = sound.L.1;
          f_max = sound.F;
          k_max = (small T.n T.G T.L T.F sound.n.1 sound.G.1 sound.L.1 sound.F).k;
          w_max = omega (arith, W_max T sound, w_is);
        }
