-- Stretch i of the P facts is that of thread i / k from pair i % k, and the one of t from pair a is stretch t * k + a. The stretches of Q facts
-- of a thread from one pair are counted together, in the same order.
use mathlib.Core.Path.{◌≡◌, ap, sym, subst}
use Prim.Native.Nat.{ℕ, ◌+◌, ◌*◌, ◌/◌, ◌%◌, ◌<◌, ◌≤◌}
use native.Mathlib.Nat.{mod-lt, mul-le-mul, div-lt_iff_lt-mul, div-add-mod'}
use native.Mathlib.Omega.{arith}
use lib.Arith.{digits_lt, digits_div, digits_mod}
use Rattle.positions.specs.Plans.{Plan, Planned, p_from, q_from}
use Rattle.positions.proofs.Places.{p_stretch, q_stretches}
use Rattle.uses.specs.Uses.{Uses, Upto}

module _ {s : Plan} (h : Planned s) where
  -- there is a stretch
  pub k_pos : 0 < s.k
  k_pos = omega (arith, mul-le-mul {n₁ = 1} {m₁ = 1} h.g_pos h.l_pos, h.k)

  pub stretches_pos : 0 < s.n * s.k
  stretches_pos = omega (arith, mul-le-mul {n₁ = 1} {m₁ = 1} h.n_pos k_pos)

  -- the stretches of P facts are at most 1024
  pub stretches_small : s.n * s.k ≤ 1024
  stretches_small = mul-le-mul {n₂ = 4} {m₂ = 256} h.n_max h.k_max

  pub frames_small : s.f * s.k ≤ 2048
  frames_small = mul-le-mul {n₂ = 8} {m₂ = 256} h.f_max h.k_max

  module _ {i : ℕ} (l : i < s.n * s.k) where
    pub stretch_thread : i / s.k < s.n
    stretch_thread = (div-lt_iff_lt-mul k_pos).1 l

    pub stretch_pair : i % s.k < s.k
    stretch_pair = mod-lt i k_pos

    -- where the stretch of P facts begins, and where the stretches of Q facts do
    pub p_begins : p_from s (i / s.k) (i % s.k) ≡ s.p + i * s.k
    p_begins = ap (λ j. s.p + j * s.k) (div-add-mod' i s.k)

    pub q_begins : q_from s (i / s.k) (i % s.k) ≡ s.q + i * (s.f * s.k)
    q_begins = ap (λ j. s.q + j * (s.f * s.k)) (div-add-mod' i s.k)

    pub p_room : s.p + i * s.k + s.k ≤ s.q
    p_room = omega (arith, p_begins, p_stretch h stretch_thread stretch_pair)

    pub q_room : s.q + i * (s.f * s.k) + s.f * s.k ≤ s.w
    q_room = omega (arith, q_begins, q_stretches h stretch_thread stretch_pair)

-- a use on the facts of t from pair a
pub stretch_of : (A : ℕ → ℕ → Uses) {n k t a q x y : ℕ} → t < n → a < k → A t a q x y → Upto (λ i. A (i / k) (i % k)) (n * k) q x y
stretch_of A {n} {k} {t} {a} {q} {x} {y} th ah u =
    record {
      k = t * k + a;
      lt = digits_lt th ah;
      given = subst (λ j. A j ((t * k + a) % k) q x y) (sym (digits_div t ah)) (subst (λ j. A t j q x y) (sym (digits_mod t ah)) u);
    }
