-- The contracts determine what is answered: two answers of a run on one table and one budget are equal, with every byte of the memory, and so
-- are two smallest missing positions. Within the budget and over it exclude each other, since a memory that exceeds the budget marks no more
-- than the derivable facts.
use mathlib.Core.Path.{◌≡◌, refl, sym, ap, ◌∙◌}
use mathlib.Core.List.{List}
use Prim.Native.Nat.{ℕ}
use native.Mathlib.Omega.{arith}
use lib.ListN.{length}
use lib.Seq.{take_all, ext_get_or}
use Rattle.std.specs.Prelude.{Option, Some, None}
use contract.Lifetimes.{Lfts}
use denote.Triple.Clauses.{AtExit}
use borrow.Fn.Kinds.{Dens, ended_of}
use Rattle.files.specs.Table.{Table, Sound, W}
use Rattle.model.proofs.Memory.{exceeds_count}
use Rattle.model.proofs.Unique.{holds_same, fact_count_same, first_same}
use Rattle.positions.specs.Plans.{Plan}
use Rattle.store.specs.Marking.{room}
use Rattle.positions.proofs.PlanIsModel.{w_is}
use Rattle.engine.specs.Answers.{Ran, Confirmed}
use Rattle.engine.proofs.run.run.Reads as run
use Rattle.engine.proofs.run.run.Kinds as run-kinds
use Rattle.engine.proofs.run.missing.Reads as missing
use Rattle.engine.proofs.run.missing.Kinds as missing-kinds
use Rattle.engine.proofs.run.start_at.Reads as start-at
use Rattle.engine.proofs.run.start_at.Kinds as start-at-kinds

module _ {T : Table} (sound : Sound T) (budget : ℕ) {m m' : List ℕ} (long : room m ≡ W T) (long' : room m' ≡ W T) where
  pub ran_same : (r r' : Option ℕ) → Ran T budget r m → Ran T budget r' m' → (r ≡ r') × (m ≡ m')
  ran_same (Some c) (Some c') (h, k, l) (h', k', l') =
      (ap Some (fact_count_same T k k'), sym (take_all (W T) m (omega arith)) ∙ holds_same h h' ∙ take_all (W T) m' (omega arith))
  ran_same (Some c) None (h, k, l) (z, e) = absurd (omega (arith, exceeds_count sound e k))
  ran_same None (Some c) (z, e) (h, k, l) = absurd (omega (arith, exceeds_count sound e k))
  ran_same None None (z, e) (z', e') = (refl, ext_get_or 0 m m' (omega arith) (λ p l. z p l ∙ sym (z' p (omega arith))))

pub confirmed_same : (T : Table) (m : List ℕ) (r r' : Option ℕ) → Confirmed T m r → Confirmed T m r' → r ≡ r'
confirmed_same T m (Some p) (Some q) a b = ap Some (first_same a b)
confirmed_same T m (Some p) None a none = absurd (none _ a.here)
confirmed_same T m None (Some q) none b = absurd (none _ b.here)
confirmed_same T m None None none none' = refl

-- ---- the contracts as the prover reads them from the source; a loan keeps its length

pub run_fixes : (κs : Lfts 4) (a : Dens κs run-kinds.ps) (x x' : Option ℕ) (s s' : AtExit (ended_of 4 run-kinds.ps run-kinds.r) κs)
    → let m = a.1.1.1.1.0.now in let end = s.1.1.1.1.0.now in let end' = s'.1.1.1.1.0.now in
    length end ≡ length m → length end' ≡ length m → run.Pre κs a → run.Post κs a x s → run.Post κs a x' s' → (x ≡ x') × (end ≡ end')
run_fixes κs a x x' s s' l l' ((T, rows, first), long) p q =
    let w : a.0.w ≡ W T = ap (λ (z : Plan). z.w) rows.plan ∙ w_is T in
    ran_same rows.sound _ (l ∙ long ∙ w) (l' ∙ long ∙ w) x x' (p T rows first) (q T rows first)

pub missing_fixes : (κs : Lfts 3) (a : Dens κs missing-kinds.ps) (x x' : Option ℕ) (s s' : AtExit (ended_of 3 missing-kinds.ps missing-kinds.r) κs)
    → missing.Pre κs a → missing.Post κs a x s → missing.Post κs a x' s'
    → (x ≡ x') × (s.1.1.0.now ≡ s'.1.1.0.now)
missing_fixes κs a x x' s s' ((T, rows), _) p q = (confirmed_same T _ x x' (p.0 T rows) (q.0 T rows), p.1 ∙ sym q.1)

pub start_at_fixes : (κs : Lfts 1) (a : Dens κs start-at-kinds.ps) (x x' : ℕ) (s s' : AtExit (ended_of 1 start-at-kinds.ps start-at-kinds.r) κs)
    → start-at.Post κs a x s → start-at.Post κs a x' s' → x ≡ x'
start_at_fixes κs a x x' s s' p q = p.0 ∙ sym q.0
