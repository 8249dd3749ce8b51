-- The next mark. The search for it goes from `from` on and passes what is not marked; and from where it stands to what comes after it.
--     Passed, passed_none, passed_more    the loop
--     next_here, next_nowhere             its two ends
--     next_first, next_skip               where that place is marked it is there; else it is the next one of the place after
use mathlib.Core.Path.{◌≡◌, ap}
use mathlib.Core.List.{List}
use Prim.Native.Nat.{ℕ, ◌+◌, ◌≤◌, ◌<◌}
use native.Mathlib.Decide.{ℕ_discrete, dec_lt}
use native.Mathlib.Omega.{arith}
use Rattle.std.specs.Prelude.{Option, Some, None}
use Rattle.store.specs.Marking.{Has, NextMark}

-- ---- the loop

-- no mark at or past `from` stands before p
pub record Passed (m : List ℕ) (from p : ℕ) : Type 0 where
  pub past : from ≤ p
  pub none : (q : ℕ) → from ≤ q → q < p → ¬ Has m q

module _ {m : List ℕ} {from : ℕ} where
  pub passed_none : Passed m from from
  passed_none = record { past = omega arith; none = λ q a b. absurd (omega arith) }

  module _ {p : ℕ} (h : Passed m from p) where
    pub passed_more : ¬ Has m p → Passed m from (p + 1)
    passed_more n = record { past = omega (arith, h.past); none = λ q a b. by q a b (ℕ_discrete q p) }
      where
        by : (q : ℕ) → from ≤ q → q < p + 1 → Dec (q ≡ p) → ¬ Has m q
        by q a b (yes e) = rw e n
        by q a b (no d) = h.none q a (omega arith)

    module _ {w : ℕ} where
      pub next_here : p < w → Has m p → NextMark m from w (Some p)
      next_here l k = record { here = record { past = h.past; below = l; has = k }; none = λ q b k. h.none q k.past b k.has }

      pub next_nowhere : w ≤ p → NextMark m from w None
      next_nowhere l q k = h.none q k.past (omega (arith, k.below)) k.has

-- ---- from a place on

module _ (m : List ℕ) (from w : ℕ) where
  pub next_first : (o : Option ℕ) → from < w → Has m from → NextMark m from w o → o ≡ Some from
  next_first None l h none = absurd (none from (record { past = omega arith; below = l; has = h }))
  next_first (Some p) l h f = ap Some (by (dec_lt from p))
    where
      by : Dec (from < p) → p ≡ from
      by (yes b) = absurd (f.none from b (record { past = omega arith; below = l; has = h }))
      by (no b) = omega (arith, f.here.past)

  pub next_skip : (o : Option ℕ) → ¬ Has m from → NextMark m from w o → NextMark m (from + 1) w o
  next_skip None n none = λ q k. none q (record { past = omega (arith, k.past); below = k.below; has = k.has })
  next_skip (Some p) n f =
      record {
        here = record { past = further (ℕ_discrete p from); below = f.here.below; has = f.here.has };
        none = λ q b k. f.none q b (record { past = omega (arith, k.past); below = k.below; has = k.has });
      }
    where
      further : Dec (p ≡ from) → from + 1 ≤ p
      further (yes e) = absurd (n (rw e at f.here.has))
      further (no d) = omega (arith, f.here.past)
