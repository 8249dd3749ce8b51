-- Where the facts stand, with the sizes of a table worked out once (01, "Working memory and claims"). The P facts of a thread from one pair stand
-- side by side, one for each pair where a fact may end, and so do its Q facts from one pair with one frame: this is a stretch of facts.
use Rattle.std.specs.Prelude.{◌≡◌, ℕ, ◌+◌, ◌*◌, ◌<◌, ◌≤◌}
use Rattle.files.specs.Table.{Table, most_threads, most_shared, most_locals, most_frames, most_facts}

-- n threads, g shared stores, l local stores, f frames; k pairs of a shared and a local store; p and q, where the P and the Q facts begin; w facts
-- in all
pub record Plan : Type 0 where
  pub n : ℕ
  pub g : ℕ
  pub l : ℕ
  pub f : ℕ
  pub k : ℕ
  pub p : ℕ
  pub q : ℕ
  pub w : ℕ

-- a pair of a shared and a local store is a number below k; p and q are where the P and the Q facts begin, and w is how many facts there are
pub record Planned (s : Plan) : Type 0 where
  pub k : s.k ≡ s.g * s.l
  pub p : s.p ≡ s.n * s.g * s.g
  pub q : s.q ≡ s.p + s.n * s.k * s.k
  pub w : s.w ≡ s.q + s.n * s.k * s.f * s.k
  pub n_pos : 0 < s.n
  pub g_pos : 0 < s.g
  pub l_pos : 0 < s.l
  pub n_max : s.n ≤ most_threads
  pub g_max : s.g ≤ most_shared
  pub l_max : s.l ≤ most_locals
  pub f_max : s.f ≤ most_frames
  pub k_max : s.k ≤ 256
  pub w_max : s.w ≤ most_facts

-- g and l as one number below k
abbrev pub pair : Plan → ℕ → ℕ → ℕ
pair s g l = g * s.l + l

-- P fact of t from pair 0 to pair c; the one from pair a stands a * k further
abbrev pub p_at : Plan → ℕ → ℕ → ℕ
p_at s t c = s.p + t * s.k * s.k + c

-- where the stretch of P facts of t from pair a begins; the one to pair c stands c further
abbrev pub p_from : Plan → ℕ → ℕ → ℕ
p_from s t a = s.p + (t * s.k + a) * s.k

-- where the stretches of Q facts of t from pair a begin, one for each frame; the fact with frame f to pair c stands f * k + c further
abbrev pub q_from : Plan → ℕ → ℕ → ℕ
q_from s t a = s.q + (t * s.k + a) * (s.f * s.k)

-- G fact of t from g to g'
abbrev pub g_at : Plan → ℕ → ℕ → ℕ → ℕ
g_at s t g g' = (t * s.g + g) * s.g + g'

-- the plan of a table with n threads, g shared stores, l local stores and f frames
abbrev pub sized : ℕ → ℕ → ℕ → ℕ → Plan
sized n g l f =
    record {
      n = n;
      g = g;
      l = l;
      f = f;
      k = g * l;
      p = n * g * g;
      q = n * g * g + n * (g * l) * (g * l);
      w = n * g * g + n * (g * l) * (g * l) + n * (g * l) * f * (g * l);
    }

abbrev pub plan_of : Table → Plan
plan_of T = sized T.n T.G T.L T.F
