-- What a run comes to, from a clear memory Z: the start facts are marked in it, and the rules put marks until nothing lacks or none is left. The
-- marks and what is left are together one more than the budget, all along.
use mathlib.Core.Path.{◌≡◌, refl, sym, ap, subst, ◌∙◌}
use mathlib.Core.Bool.{true, false}
use mathlib.Core.Logic.{◌⊎◌, inl, inr}
use mathlib.Core.List.{List}
use Prim.Native.Nat.{ℕ, suc, ◌+◌, ◌<◌, ◌≤◌}
use native.Mathlib.Omega.{arith}
use lib.ListN.{length, replicate, length-replicate}
use Rattle.files.specs.Table.{Table, Sound, W}
use Rattle.model.specs.Rules.{Starts}
use Rattle.model.specs.Memory.{Relations, Marked, FactCount, Exceeds}
use Rattle.model.specs.Claims.{Missing}
use Rattle.store.specs.declared.rows.RowCounts.{RowCounts}
use Rattle.store.specs.Marking.{room}
use Rattle.store.proofs.MarkLaws.{zeros_clear}
use Rattle.positions.specs.Plans.{Plan, plan_of}
use Rattle.store.specs.Reading.{Reads}
use Rattle.positions.proofs.PlanIsModel.{w_is}
use Rattle.uses.specs.declared.lines.Pass.{Pass}
use Rattle.uses.specs.Uses.{Lacks}
use Rattle.uses.specs.AllUses.{AllUses}
use Rattle.uses.specs.Passing.{Looked}
use Rattle.engine.specs.Working.{Settled, Worked, looked, settled}
use Rattle.engine.specs.Given.{RowsOf, StartOf}
use Rattle.engine.specs.Starting.{begun}
use Rattle.std.specs.Prelude.{Some, None}
use Rattle.engine.specs.Answers.{Confirmed}
use Rattle.uses.proofs.UsesAreYields.{lacks_missing, missing_lacks}
use Rattle.engine.proofs.Derivable.{Derivable, exceeds, derivable_grew, starts_grew, held, counted}
use Rattle.engine.proofs.StartLaws.{begun_clear}

-- ---- a run

-- the start facts are marked, and each mark is of a derivable fact
record Started (T : Table) (c : ℕ) (m : List ℕ) : Type 0 where
  derivable : Derivable T c m
  starts : Starts T (Marked T m)

module _ {T : Table} {s : Plan} {n : RowCounts} {st pu po : List ℕ} (rows : RowsOf T s n st pu po) {g₀ : ℕ} {locals : List ℕ}
    (first : StartOf T g₀ locals) (m : List ℕ) {Z : List ℕ} (long : room m ≡ s.w) (cleared : Z ≡ replicate (length m) 0) {B : List ℕ}
    (start : B ≡ begun s g₀ locals s.n Z) where
  started : Started T s.n B
  started =
      subst (Started T s.n) (sym start)
      (subst (λ (s : Plan). room Z ≡ s.w → Started T s.n (begun s g₀ locals s.n Z)) (sym rows.plan) by_plan
      (ap room cleared ∙ length-replicate (length m) 0 ∙ long))
    where
      by_plan : room Z ≡ (plan_of T).w → Started T T.n (begun (plan_of T) g₀ locals T.n Z)
      by_plan l =
          let b = begun_clear rows.sound first Z (omega (arith, w_is T)) (zeros_clear (length m) cleared) T.n (omega arith) in
          record { derivable = b.derivable; starts = b.starts }

  -- more start facts than the budget
  pub over_at_start : {budget : ℕ} → budget < s.n → Exceeds T budget
  over_at_start l = exceeds started.derivable l

  module _ {b r : Pass} {M : List ℕ} (settled : Settled (AllUses s n st pu po) b r B M) where
    by_plan : Settled (AllUses (plan_of T) n st pu po) b r B M
    by_plan = subst (λ (s : Plan). Settled (AllUses s n st pu po) b r B M) rows.plan settled

    derivable : Derivable T (s.n + by_plan.puts.count) M
    derivable = derivable_grew rows.sound rows.reads started.derivable by_plan.puts.grew

    -- none is left
    pub over_when_spent : {budget : ℕ} → s.n + b.left ≡ suc budget → r.left ≡ 0 → Exceeds T budget
    over_when_spent e z = exceeds derivable (omega (arith, by_plan.puts.left))

    -- some are left
    pub done_when_settled : {budget c : ℕ} → s.n + b.left ≡ suc budget → c + r.left ≡ suc budget → 0 < r.left
        → Relations T M × FactCount T c × (c ≤ budget)
    done_when_settled {c = c} e f h =
        let starts = starts_grew rows.sound rows.reads started.starts by_plan.puts.grew in
        let count : s.n + by_plan.puts.count ≡ c = omega (arith, by_plan.puts.left) in (
          held rows.sound rows.reads derivable (by_plan.closed h) starts,
          subst (FactCount T) count (counted rows.sound rows.reads derivable (by_plan.closed h) starts),
          omega arith,
        )

-- ---- work that puts, and work that looks

pub worked_settled : {A : ℕ → ℕ → ℕ → Type 0} {b r : Pass} {m m' : List ℕ} → Worked A true b r m m' → Settled A b r m m'
worked_settled (settled s) = s

pub worked_looked : {A : ℕ → ℕ → ℕ → Type 0} {b r : Pass} {m m' : List ℕ} → Worked A false b r m m' → Looked A b r m × (m' ≡ m)
worked_looked (looked k) = (k, refl)

-- a pass that looks finds the smallest missing position
looked_confirmed : {T : Table} → Sound T → {n : RowCounts} {st pu po : List ℕ} → Reads T n st pu po → (m : List ℕ) {b r : Pass} → b.best ≡ W T
    → 0 < b.left → Looked (AllUses (plan_of T) n st pu po) b r m
    → (r.best < W T → Confirmed T m (Some r.best)) × (W T ≤ r.best → Confirmed T m None)
looked_confirmed {T} sound {n} {st} {pu} {po} reads m {b} {r} e h k = (λ lt. go lt k.first, λ le y s. absurd (omega (arith, s.below, least y s)))
  where
    least : (y : ℕ) → Missing T (Marked T m) y → r.best ≤ y
    least y s = k.least h y (missing_lacks sound reads m y s)

    go : r.best < W T → (r.best ≡ b.best) ⊎ Lacks (AllUses (plan_of T) n st pu po) m r.best → Confirmed T m (Some r.best)
    go lt (inl i) = absurd (omega arith)
    go lt (inr l) = record { here = lacks_missing sound reads m r.best l; none = λ y lt s. absurd (omega (arith, least y s)) }

pub confirmed : {T : Table} {s : Plan} {n : RowCounts} {st pu po : List ℕ} → RowsOf T s n st pu po → (m : List ℕ) {b r : Pass} → b.best ≡ s.w
    → 0 < b.left → Looked (AllUses s n st pu po) b r m → (r.best < s.w → Confirmed T m (Some r.best)) × (s.w ≤ r.best → Confirmed T m None)
confirmed {T} {s} {n} {st} {pu} {po} rows m {b} {r} e h k =
    let l = looked_confirmed rows.sound rows.reads m (e ∙ w) h (subst (λ (s : Plan). Looked (AllUses s n st pu po) b r m) rows.plan k) in
    (λ lt. l.0 (omega (arith, w)), λ le. l.1 (omega (arith, w)))
  where
    w : s.w ≡ W T
    w = subst (λ (s : Plan). s.w ≡ W T) (sym rows.plan) (w_is T)
