-- The uses of all rules at positions are the uses of the rules. So what lacks at positions is what is missing by the rules.
use mathlib.Core.Path.{◌≡◌, sym, ap, subst, ◌∙◌}
use mathlib.Core.Logic.{inl, inr}
use mathlib.Core.List.{List}
use Prim.Native.Nat.{ℕ, ◌+◌, ◌*◌, ◌/◌, ◌%◌, ◌<◌}
use lib.Arith.{digits_lt}
use Rattle.files.specs.Table.{Table, Sound, W}
use Rattle.model.specs.Rules.{Fact, P, Q, Yields, env_P, env_Q, step_P, step_G, push_Q, push_P, call, pop_P}
use Rattle.model.specs.Positions.{pos, fact_at}
use Rattle.model.specs.Memory.{Marked}
use Rattle.model.specs.Claims.{Missing}
use Rattle.model.proofs.Positions.{pos_lt, fact_at_pos, fact_at_stands}
use Rattle.store.specs.declared.rows.RowCounts.{RowCounts}
use Rattle.store.specs.Marking.{Has}
use Rattle.positions.specs.Plans.{Plan, plan_of}
use Rattle.store.specs.Reading.{Reads}
use Rattle.store.proofs.MarkLaws.{marked_has}
use Rattle.positions.proofs.PlanIsModel.{planned, pos_p_stretch, pos_q_stretch}
use Rattle.uses.specs.Uses.{Uses, Lacks}
use Rattle.uses.specs.AllUses.{PUses, FrameUses, QUses, AllUses}
use Rattle.uses.proofs.StretchNumbers.{stretch_thread, stretch_pair, stretch_of}
use Rattle.uses.proofs.Bridge.{Used, upto_at, used-to, used-inl, used-inr, used-lacks, Yielded, marked_at, p_stands, q_stands}
use Rattle.uses.proofs.BridgeRows.{step_used, step_yields, push_used, push_yields, pop_used, pop_yields}
use Rattle.uses.proofs.BridgeCalls.{call_used, call_yields}
use Rattle.uses.proofs.BridgeGuarantees.{moved_used, moved_yields}

module _ {T : Table} (sound : Sound T) {n : RowCounts} {st pu po : List ℕ} (reads : Reads T n st pu po) (m : List ℕ) where
  abbrev s : Plan
  s = plan_of T

  abbrev All : Uses
  All = AllUses s n st pu po

  -- ---- from uses of the rules: on the P facts, the Q facts or the Q facts of one frame, in the stretch of a marked fact

  on_P : {t a b g l y : ℕ} → Marked T m (P t a b g l) → Used (PUses s n st pu t (a * T.L + b)) m y → Used All m y
  on_P p = used-to (λ q x u. inl (stretch_of (PUses s n st pu) p.fits.0 (digits_lt p.fits.1 p.fits.2) u))

  on_Q : {t a b f g l y : ℕ} → Marked T m (Q t a b f g l) → Used (QUses s n po t (a * T.L + b)) m y → Used All m y
  on_Q p = used-to (λ q x u. inr (stretch_of (QUses s n po) p.fits.0 (digits_lt p.fits.1 p.fits.2) u))

  on_frame : {t a b f g l y : ℕ} → Marked T m (Q t a b f g l) → Used (FrameUses s t (a * T.L + b) f) m y → Used All m y
  on_frame p u = on_Q p (used-to (λ q x v. inl (upto_at _ p.fits.3 v)) u)

  pub yields_used : (f : Fact) → Yields T (Marked T m) f → Used All m (pos T f)
  yields_used f (step_P p r) = on_P p (used-inl (step_used T m n.steps st _ _ reads.steps _ r.row p).0)
  yields_used f (step_G p r) = on_P p (used-inl (step_used T m n.steps st _ _ reads.steps _ r.row p).1)
  yields_used f (push_Q p r) = on_P p (used-inr (used-inl (push_used T m n.pushes pu _ _ reads.pushes _ r.row p).0))
  yields_used f (push_P p r) = on_P p (used-inr (used-inl (push_used T m n.pushes pu _ _ reads.pushes _ r.row p).1))
  yields_used f (pop_P p r) = on_Q p (used-inr (pop_used T m n.pops po _ _ reads.pops _ r.row p))
  yields_used f (call p c) = on_frame p (used-inl (call_used p c))
  yields_used f (env_P p e ne) = on_P p (used-inr (used-inr (moved_used _ (P _ _ _) (pos_p_stretch T _ _ _) p.fits.4 p e ne)))
  yields_used f (env_Q p e ne) = on_frame p (used-inr (moved_used _ (Q _ _ _ _) (pos_q_stretch T _ _ _ _) p.fits.5 p e ne))

  -- ---- to uses of the rules, from marks at q and x

  module _ {q x y : ℕ} (hq : Has m q) (hx : Has m x) {t : ℕ} (th : t < T.n) (a : ℕ) (ah : a < s.k) where
    of_P : PUses s n st pu t a q x y → Yielded T m y
    of_P (inl u) = step_yields sound ah hx t reads.steps u
    of_P (inr (inl u)) = push_yields sound ah hx t reads.pushes u
    of_P (inr (inr u)) =
        moved_yields _ (P t (a / T.L) (a % T.L)) (λ g l. p_stands sound th ah) (λ e g g' l. env_P) u hq hx

    of_frame : (f : ℕ) → f < T.F → FrameUses s t a f q x y → Yielded T m y
    of_frame f fh (inl u) = call_yields sound th ah fh u hq hx
    of_frame f fh (inr u) =
        moved_yields _ (Q t (a / T.L) (a % T.L) f) (λ g l. q_stands sound th ah fh) (λ e g g' l. env_Q) u hq hx

    of_Q : QUses s n po t a q x y → Yielded T m y
    of_Q (inl u) = of_frame u.k u.lt u.given
    of_Q (inr u) = pop_yields sound ah hx t reads.pops u

  pub used-yields : (q x y : ℕ) → All q x y → Has m q → Has m x → Yielded T m y
  used-yields q x y (inl u) hq hx = of_P hq hx (stretch_thread (planned T sound) u.lt) _ (stretch_pair (planned T sound) u.lt) u.given
  used-yields q x y (inr u) hq hx = of_Q hq hx (stretch_thread (planned T sound) u.lt) _ (stretch_pair (planned T sound) u.lt) u.given

  -- what lacks at positions is what is missing by the rules
  pub lacks_yields : {y : ℕ} → Lacks All m y → Yielded T m y
  lacks_yields l = used-yields _ _ _ l.given l.has_q l.has_x

  pub lacks_missing : (y : ℕ) → Lacks All m y → Missing T (Marked T m) y
  lacks_missing y l =
      let d = lacks_yields l in
      let e : fact_at T y ≡ d.f = ap (fact_at T) (sym d.here) ∙ fact_at_pos T d.f d.fits in
      record {
        below = subst (λ z. z < W T) d.here (pos_lt T d.f d.fits);
        yields = subst (Yields T (Marked T m)) (sym e) d.yields;
        not = λ h. l.not (subst (Has m) (ap (pos T) e ∙ d.here) (marked_has h));
      }

  pub missing_lacks : (y : ℕ) → Missing T (Marked T m) y → Lacks All m y
  missing_lacks y s =
      let at = fact_at_stands sound y s.below in
      subst (Lacks All m) at.here (used-lacks (yields_used _ s.yields) (λ h. s.not (marked_at at at.here h)))
