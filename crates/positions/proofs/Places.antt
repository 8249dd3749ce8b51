-- Positions by a plan are in the memory, each kind in its part, and the numbers on the way to them are small. A position is a number in
-- mixed digits, each below its base; so it is below the product of the bases (`digits_lt`), and omega multiplies that out. The limits of the
-- document bound every product, so no sum wraps.
use Prim.Native.Nat.{ℕ, ◌+◌, ◌*◌, ◌/◌, ◌%◌, ◌<◌, ◌≤◌}
use native.Mathlib.Nat.{mul-le-mul, mod-lt, mul-le-mul_right, div-lt_iff_lt-mul}
use native.Mathlib.Omega.{arith}
use lib.Arith.{digits_lt}
use Rattle.model.proofs.Positions.{right_pos}
use Rattle.positions.specs.Plans.{Plan}
use Rattle.positions.specs.Plans.{Planned, pair, p_at, p_from, q_from, g_at}

module _ {s : Plan} (h : Planned s) where
  pub pair_lt : {g l : ℕ} → g < s.g → l < s.l → pair s g l < s.k
  pair_lt a b = omega (arith, digits_lt a b, h.k)

  pub p_line : {t c j : ℕ} → t < s.n → c < s.k → j < s.k → p_at s t c + j * s.k < s.q
  p_line a b c = omega (arith, digits_lt (digits_lt a c) b, h.q)

  -- a stretch of P facts
  pub p_stretch : {t a : ℕ} → t < s.n → a < s.k → p_from s t a + s.k ≤ s.q
  p_stretch {t} {a} x y = omega (arith, mul-le-mul_right s.k (digits_lt x y), h.q)

  -- the stretches of Q facts from a pair, and one of them
  pub q_stretches : {t a : ℕ} → t < s.n → a < s.k → q_from s t a + s.f * s.k ≤ s.w
  q_stretches {t} {a} x y = omega (arith, mul-le-mul_right (s.f * s.k) (digits_lt x y), h.w)

  pub q_stretch : {f : ℕ} → f < s.f → f * s.k + s.k ≤ s.f * s.k
  q_stretch {f} x = omega (arith, mul-le-mul_right s.k x)

  pub g_lt : {t g g' : ℕ} → t < s.n → g < s.g → g' < s.g → g_at s t g g' < s.p
  g_lt a b c = omega (arith, digits_lt (digits_lt a b) c, h.p)

  pub parts : (s.p ≤ s.q) × (s.q ≤ s.w)
  parts = (omega (arith, h.q), omega (arith, h.w))

  -- what the sums are made of is small
  pub pair_small : {g : ℕ} → g < s.g → g * s.l ≤ 256
  pair_small {g} a = mul-le-mul {n₁ = g} {n₂ = 16} {m₂ = 16} (omega (arith, h.g_max)) h.l_max

  pub p_small : {t : ℕ} → t < s.n → (t * s.k ≤ 1024) × (t * s.k * s.k ≤ 262144)
  p_small {t} a =
      let b = mul-le-mul {n₁ = t} {n₂ = 4} {m₂ = 256} (omega (arith, h.n_max)) h.k_max in
      (b, mul-le-mul {n₁ = t * s.k} {n₂ = 1024} {m₂ = 256} b h.k_max)

  pub stretch_small : {t a : ℕ} → t < s.n → a < s.k → (t * s.k ≤ 1024) × ((t * s.k + a) * s.k ≤ 327680) × (s.f * s.k ≤ 2048)
      × ((t * s.k + a) * (s.f * s.k) ≤ 2621440)
  stretch_small {t} {a} x y =
      let b : t * s.k + a ≤ 1280 = omega (arith, p_small x, h.k_max) in
      let fk = mul-le-mul {n₂ = 8} {m₂ = 256} h.f_max h.k_max in (
        (p_small x).0,
        mul-le-mul {n₁ = t * s.k + a} {n₂ = 1280} {m₂ = 256} b h.k_max,
        fk,
        mul-le-mul {n₁ = t * s.k + a} {n₂ = 1280} {m₂ = 2048} b fk,
      )

  pub g_small : {t g : ℕ} → t < s.n → g < s.g → (t * s.g ≤ 64) × ((t * s.g + g) * s.g ≤ 1280)
  g_small {t} {g} a b =
      let d = mul-le-mul {n₁ = t} {n₂ = 4} {m₂ = 16} (omega (arith, h.n_max)) h.g_max in
      let e : t * s.g + g ≤ 80 = omega (arith, h.g_max) in
      (d, mul-le-mul {n₁ = t * s.g + g} {n₂ = 80} {m₂ = 16} e h.g_max)

  pub ck_small : {c : ℕ} → c < s.k → c * s.k ≤ 65536
  ck_small {c} a = mul-le-mul {n₁ = c} {n₂ = 256} {m₂ = 256} (omega (arith, h.k_max)) h.k_max

  -- the pairs of one shared store
  pub cut : (m : ℕ) → m < s.g → m * s.l + s.l ≤ s.k
  cut m a = omega (arith, mul-le-mul_right s.l a, h.k)

-- the digits of the number of a Q fact
pub record Called (s : Plan) (i : ℕ) : Type 0 where
  pub k_pos : 0 < s.k
  pub f_pos : 0 < s.f
  pub stretch : i / s.k < s.n * s.k * s.f
  pub t : i / s.k / s.f / s.k < s.n
  pub c : i % s.k < s.k

pub called : {s : Plan} {i : ℕ} → Planned s → i < s.n * s.k * s.f * s.k → Called s i
called {s} {i} h l =
    let kp = right_pos (s.n * s.k * s.f) s.k l in
    let r = (div-lt_iff_lt-mul kp).1 l in
    let fp = right_pos (s.n * s.k) s.f r in
    record { k_pos = kp; f_pos = fp; stretch = r; t = (div-lt_iff_lt-mul kp).1 ((div-lt_iff_lt-mul fp).1 r); c = mod-lt i kp }

-- each product of the sizes on the way to w is small
pub record Small (n g l f : ℕ) : Type 0 where
  pub k : g * l ≤ 256
  pub ng : n * g ≤ 64
  pub p : n * g * g ≤ 1024
  pub nk : n * (g * l) ≤ 1024
  pub nkk : n * (g * l) * (g * l) ≤ 262144
  pub nkf : n * (g * l) * f ≤ 8192
  pub nkfk : n * (g * l) * f * (g * l) ≤ 2097152

pub small : (n g l f : ℕ) → n ≤ 4 → g ≤ 16 → l ≤ 16 → f ≤ 8 → Small n g l f
small n g l f a b c d =
    let k = mul-le-mul {n₁ = g} {n₂ = 16} {m₂ = 16} b c in
    let ng = mul-le-mul {n₁ = n} {n₂ = 4} {m₂ = 16} a b in
    let nk = mul-le-mul {n₁ = n} {n₂ = 4} {m₂ = 256} a k in
    let nkf = mul-le-mul {n₁ = n * (g * l)} {n₂ = 1024} {m₂ = 8} nk d in
    record {
      k = k;
      ng = ng;
      p = mul-le-mul {n₁ = n * g} {n₂ = 64} {m₂ = 16} ng b;
      nk = nk;
      nkk = mul-le-mul {n₁ = n * (g * l)} {n₂ = 1024} {m₂ = 256} nk k;
      nkf = nkf;
      nkfk = mul-le-mul {n₁ = n * (g * l) * f} {n₂ = 8192} {m₂ = 256} nkf k;
    }
