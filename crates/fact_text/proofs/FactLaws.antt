-- The fact at a position by a plan: each of the three kinds in its part of the positions. For the plan of a table it is the table's.
use mathlib.Core.Path.{◌≡◌, refl, ap, ◌∙◌}
use mathlib.Core.Logic.{if_pos, if_neg}
use Prim.Native.Nat.{ℕ, ◌-◌, ◌≤◌, ◌<◌}
use native.Mathlib.Decide.{dec_lt}
use native.Mathlib.Omega.{arith}
use Rattle.files.specs.Table.{Table}
use Rattle.model.specs.Positions.{base_p, base_q, at_g, at_p, at_q, fact_at}
use Rattle.positions.specs.Plans.{Plan, Planned, plan_of}
use Rattle.positions.proofs.Places.{called}
use Rattle.fact_text.specs.Facts.{bare_table, plan_fact}

-- by the plan of a table, the fact at a position is model's
pub fact_of_table : (T : Table) (p : ℕ) → plan_fact (plan_of T) p ≡ fact_at T p
unfolding fact_at base_p base_q at_g at_p at_q
fact_of_table T p = refl

module _ {s : Plan} (h : Planned s) where
  base_p_lem : s.p ≡ base_p (bare_table s)
  unfolding base_p
  base_p_lem = omega (arith, h.p)

  base_q_lem : s.q ≡ base_q (bare_table s)
  unfolding base_q
  base_q_lem = rw (h.q, h.p, h.k) (omega arith)

  module _ (p : ℕ) where
    pub fact_g : p < s.p → plan_fact s p ≡ at_g (bare_table s) p
    unfolding fact_at
    fact_g l = if_pos (dec_lt _ _) (omega (arith, base_p_lem)) _ _

    pub fact_p : s.p ≤ p → p < s.q → plan_fact s p ≡ at_p (bare_table s) (p - s.p)
    unfolding fact_at
    fact_p k l =
        if_neg (dec_lt _ _) (omega (arith, base_p_lem)) _ _
        ∙ if_pos (dec_lt _ _) (omega (arith, base_q_lem)) _ _
        ∙ ap (at_p (bare_table s)) (omega (arith, base_p_lem))

    pub fact_q : s.p ≤ p → s.q ≤ p → plan_fact s p ≡ at_q (bare_table s) (p - s.q)
    unfolding fact_at
    fact_q k l =
        if_neg (dec_lt _ _) (omega (arith, base_p_lem)) _ _
        ∙ if_neg (dec_lt _ _) (omega (arith, base_q_lem)) _ _
        ∙ ap (at_q (bare_table s)) (omega (arith, base_q_lem))

    -- where a Q fact stands, there are frames
    pub frames : s.q ≤ p → p < s.w → 0 < s.f
    frames k l = (called {i = p - s.q} h (omega (arith, h.w))).f_pos
