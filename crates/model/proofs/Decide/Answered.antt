-- There is always an answer. A list of facts allows a list of errors, all of one length: it is empty, and the verdict is "safe", or it has a smallest
-- member. And of facts in range something is always found: a start fact that is lacking, or a missing position, or, if the facts are closed, what the
-- verdict on them says. So there is a verdict on the least relations of every sound table, and a finding on every claim.
use mathlib.Core.Path.{◌≡◌}
use mathlib.Core.Logic.{◌⊎◌, inl, inr, ⊎_elim}
use mathlib.Core.Option.{Option, none, some}
use mathlib.Core.List.{List, [], ◌∷◌, map, Memᴰ}
use Prim.Native.Nat.{ℕ, ◌<◌}
use native.Mathlib.Omega.{arith}
use lib.ListN.{length}
use Rattle.files.specs.Table.{Table, Sound, W}
use Rattle.model.specs.Rules.{Fact, Starts, ClosedWithStarts, Derives}
use Rattle.model.specs.Errors.{Witness}
use Rattle.model.specs.Verdict.{◌≼◌, numbers, Verdict, safe, possible}
use Rattle.model.specs.Positions.{Fits, fact_at}
use Rattle.model.specs.Claims.{Claimed, First, LacksStart, Missing, Finding, accepted, lacks_start, not_closed, allows_error}
use Rattle.model.specs.Claims.{Finds, whole, lacking, missing, allowing}
use Rattle.model.proofs.Lists.{mem_first, from_cons}
use Rattle.model.proofs.Order.{≼_refl, ≼_trans, ≼-total}
use Rattle.model.proofs.Monotone.{verdict_cast}
use Rattle.model.proofs.Claims.{none_lacking_starts, none_missing_closed, witness_row, claimed_fits}
use Rattle.model.proofs.Decide.{member?, first_below}
use Rattle.model.proofs.Decide.Yields.{fact?}
use Rattle.model.proofs.Decide.Errors.{witnesses, allows_listed}
use Rattle.model.proofs.Decide.Claims.{lacks_start?, missing?}
use Rattle.model.proofs.Decide.Derivable.{facts_listed}

-- ---- the verdict

-- w is a smallest member of a list
record Smallest (ws : List Witness) (w : Witness) : Type 0 where
  member : Memᴰ w ws
  least : (v : Witness) → Memᴰ v ws → numbers w ≼ numbers v

first_smallest : {w : Witness} {ws : List Witness} → ((v : Witness) → Memᴰ v ws → numbers w ≼ numbers v) → Smallest (w ∷ ws) w
first_smallest {w} least = record { member = mem_first; least = λ v. from_cons (λ v. numbers w ≼ numbers v) (≼_refl _) least }

-- a list of errors of n threads is empty, or it has a smallest member
smallest_member : {n : ℕ} (ws : List Witness) → ((w : Witness) → Memᴰ w ws → length w.locals ≡ n)
    → ((w : Witness) → ¬ Memᴰ w ws) ⊎ ((w : Witness) × Smallest ws w)
smallest_member [] long = inl (λ w m. elim m [ ])
smallest_member (w ∷ ws) long = inr (go (smallest_member ws (λ v i. long v (Memᴰ.tail i))))
  where
    go : ((w : Witness) → ¬ Memᴰ w ws) ⊎ ((w : Witness) × Smallest ws w) → (v : Witness) × Smallest (w ∷ ws) v
    go (inl n) = (w, first_smallest (λ v i. absurd (n v i)))
    go (inr (v, s)) =
        ⊎_elim (λ p. (w, first_smallest (λ u i. ≼_trans p (s.least u i))))
        (λ p. (v, record { member = Memᴰ.tail s.member; least = λ u. from_cons (λ u. numbers v ≼ numbers u) p s.least }))
        (≼-total (numbers w) (numbers v) (omega (arith, long w mem_first, long v (Memᴰ.tail s.member))))

module _ (T : Table) (hn : 0 < T.n) (fs : List Fact) where
  verdict_on_list : (v : Option Witness) × Verdict T (λ f. Memᴰ f fs) v
  verdict_on_list =
      let listed = allows_listed T fs hn in
      ⊎_elim (λ n. (none, safe (λ w a. n w ((listed w).0 a))))
      (λ (w, s). (some w, possible (record { allowed = (listed w).1 s.member; least = λ v a. s.least v ((listed v).0 a) })))
      (smallest_member (witnesses T fs) (λ w m. ((listed w).1 m).count))

-- ---- the finding

module _ {T : Table} (sound : Sound T) (fs : List Fact) (fits : (f : Fact) → Memᴰ f fs → Fits T f) where
  abbrev In : Fact → Type 0
  In f = Memᴰ f fs

  by_verdict : ClosedWithStarts T In → (v : Option Witness) × Verdict T In v → (x : Finding) × Finds T In x
  by_verdict c (none, safe s) = (accepted, whole c s)
  by_verdict c (some w, possible s) = (allows_error w.row, allowing c (witness_row s))

  by_position : Starts T In → ((p : ℕ) × First (Missing T In) p) ⊎ ((p : ℕ) → p < W T → ¬ Missing T In p) → (x : Finding) × Finds T In x
  by_position s (inl (p, f)) = (not_closed p, missing s f)
  by_position s (inr n) =
      by_verdict (record { starts = s; closed = none_missing_closed sound fits (λ f i. member? fact? f fs) n })
      (verdict_on_list T sound.n.0 fs)

  by_thread : ((t : ℕ) × First (LacksStart T In) t) ⊎ ((t : ℕ) → t < T.n → ¬ LacksStart T In t) → (x : Finding) × Finds T In x
  by_thread (inl (t, f)) = (lacks_start t, lacking f)
  by_thread (inr n) =
      by_position (none_lacking_starts sound fits (λ f i. member? fact? f fs) n) (first_below (missing? T fs) (W T))

  finding_on_list : (x : Finding) × Finds T In x
  finding_on_list = by_thread (first_below (lacks_start? T fs) T.n)

-- ---- of a sound table

module _ {T : Table} (sound : Sound T) where
  pub verdict_exists : (v : Option Witness) × Verdict T (Derives T) v
  verdict_exists =
      let (fs, listed) = facts_listed sound in
      let (v, judged) = verdict_on_list T sound.n.0 fs in
      (v, verdict_cast (λ f. (listed f).1) (λ f. (listed f).0) judged)

  pub finding_exists : (ps : List ℕ) → ((p : ℕ) → Memᴰ p ps → p < W T) → (x : Finding) × Finds T (Claimed T ps) x
  finding_exists ps below = finding_on_list sound (map (fact_at T) ps) (claimed_fits sound ps below)
