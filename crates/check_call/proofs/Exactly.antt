-- When a check of a table that was read finishes (document 01, "Working memory and claims": "It finishes exactly if the least relations hold no more
-- facts (G, P and Q together) than the budget. The reported count is that total."). A memory that exceeds the budget marks no more than the facts, so
-- one number of facts cannot be both within the budget and beyond it.
--     check_done                the table that a finished check is of, and what it tells of it
--     done_again                with any other memory of W bytes or more it tells the same
--     finishes_within           with no more facts than the budget, the check is done, and the count is their number
--     refused_beyond            with more facts than the budget, the answer is 8
--     done_with_W               with a budget of W or more it is always done
--     facts_above_0             there is a fact: thread 0 has a start fact
--     budget_0_refused          so with budget 0 the answer is 8
use mathlib.Core.Path.{◌≡◌, refl, ap, subst, subst⁻¹, ◌∙◌}
use mathlib.Core.List.{List}
use Prim.Native.Nat.{ℕ, ◌≤◌, ◌<◌}
use native.Mathlib.Decide.{ℕ_discrete}
use native.Mathlib.Omega.{arith}
use lib.ListN.{length}
use Rattle.numbers.specs.Reading.{got}
use Rattle.files.specs.Table.{Table, Sound, W}
use Rattle.files.specs.File.{table_at}
use Rattle.files.proofs.TableLaws.{table_sound}
use Rattle.model.specs.Rules.{Derives, start, start_fact}
use Rattle.model.specs.Positions.{pos}
use Rattle.model.specs.Memory.{Counts, none, one, skip, FactCount}
use Rattle.model.proofs.InRange.{derives_fits}
use Rattle.model.proofs.Positions.{pos_lt, fact_at_pos}
use Rattle.model.proofs.Memory.{exceeds_count}
use Rattle.model.proofs.FactCounts.{exceeds_below_W}
use Rattle.model.proofs.Unique.{fact_count_same}
use Rattle.verdict.specs.declared.search.Verdict.{Verdict}
use Rattle.verdict.proofs.Answers.{answers_same}
use Rattle.check_call.specs.Answer.{Answer, Done, Over}
use Rattle.check_call.specs.Checking.{Finished, OfTable, short, over, done, Checked, read, CheckDone}
use Rattle.check_call.proofs.Unique.{was_read}

pub check_done : {s : List ℕ} {budget : ℕ} {m : List ℕ} {count : ℕ} {verdict : Verdict} {m' : List ℕ}
    → Checked s budget m (Done count verdict) m' → CheckDone s budget m count verdict m'
check_done {s} (read {T} {next} e (done h f)) = record { table = T; next = next; is = e; sound = table_sound s T next e; finished = f }

-- ---- a table, and W bytes or more

module _ {T : Table} (sound : Sound T) {budget c : ℕ} {m : List ℕ} (room : W T ≤ length m) (counted : FactCount T c) where
  within : {a : Answer} {m' : List ℕ} → c ≤ budget → OfTable T budget m a m'
      → (verdict : Verdict) × (a ≡ Done c verdict) × Finished T budget m c verdict m'
  within l (short h) = absurd (omega arith)
  within l (over h x z) = absurd (omega (arith, exceeds_count sound x counted))
  within {m' = m'} l (done {verdict = verdict} h f) =
      let e = fact_count_same T f.counted counted in
      (verdict, (λ i. Done (e i) verdict), subst (λ k. Finished T budget m k verdict m') e f)

  beyond : {a : Answer} {m' : List ℕ} → budget < c → OfTable T budget m a m' → a ≡ Over budget
  beyond l (short h) = absurd (omega arith)
  beyond l (over h x z) = refl
  beyond l (done h f) = absurd (omega (arith, f.within, fact_count_same T f.counted counted))

-- ---- there is a fact

counts_above_0 : {A : ℕ → Type 0} {w c : ℕ} (p : ℕ) → p < w → A p → Counts A w c → 0 < c
counts_above_0 p l a none = absurd (omega arith)
counts_above_0 p l a (one k _) = omega arith
counts_above_0 {A} {c = c} p l a (skip {w} k n) = go (ℕ_discrete p w) (λ i. counts_above_0 p i a k)
  where
    go : Dec (p ≡ w) → (p < w → 0 < c) → 0 < c
    go (yes e) _ = absurd (n (subst A e a))
    go (no e) below = below (omega arith)

pub facts_above_0 : {T : Table} {c : ℕ} → Sound T → FactCount T c → 0 < c
facts_above_0 {T} sound k =
    let f = start_fact T 0 in
    let d : Derives T f = start 0 sound.n.0 in
    let fits = derives_fits sound f d in
    counts_above_0 (pos T f) (pos_lt T f fits) (subst⁻¹ (Derives T) (fact_at_pos T f fits) d) k

-- ---- a file that holds a table

module _ {s : List ℕ} {T : Table} {n : ℕ} (e : table_at s ≡ got T n) {m : List ℕ} (room : W T ≤ length m) where
  module _ {budget c : ℕ} (counted : FactCount T c) {a : Answer} {m' : List ℕ} (h : Checked s budget m a m') where
    pub finishes_within : c ≤ budget → (verdict : Verdict) × (a ≡ Done c verdict)
    finishes_within l = let (verdict, is, _) = within (table_sound s T n e) room counted l (was_read e h) in (verdict, is)

    pub refused_beyond : budget < c → a ≡ Over budget
    refused_beyond l = beyond (table_sound s T n e) room counted l (was_read e h)

  pub done_with_W : {budget : ℕ} {a : Answer} {m' : List ℕ} → W T ≤ budget → Checked s budget m a m'
      → (c : ℕ) × (verdict : Verdict) × (a ≡ Done c verdict) × FactCount T c
  done_with_W {budget} l h = by (was_read e h)
    where
      by : {a : Answer} {m' : List ℕ} → OfTable T budget m a m' → (c : ℕ) × (verdict : Verdict) × (a ≡ Done c verdict) × FactCount T c
      by (short i) = absurd (omega arith)
      by (over i x z) = absurd (omega (arith, exceeds_below_W (table_sound s T n e) x))
      by (done {count} {verdict} i f) = (count, verdict, refl, f.counted)

  pub budget_0_refused : {a : Answer} {m' : List ℕ} → Checked s 0 m a m' → a ≡ Over 0
  budget_0_refused h = by (was_read e h)
    where
      by : {a : Answer} {m' : List ℕ} → OfTable T 0 m a m' → a ≡ Over 0
      by (short l) = absurd (omega arith)
      by (over l x z) = refl
      by (done l f) = absurd (omega (arith, f.within, facts_above_0 (table_sound s T n e) f.counted))

  pub done_again : {budget : ℕ} {k k' m' : List ℕ} {count : ℕ} {verdict : Verdict} {a : Answer}
      → Checked s budget k (Done count verdict) k' → Checked s budget m a m' → a ≡ Done count verdict
  done_again {budget} {k} {k'} {m'} {count} {verdict} {a} d h = by (was_read e d)
    where
      by : OfTable T budget k (Done count verdict) k' → a ≡ Done count verdict
      by (done _ f) =
          let (_, is, f') = within (table_sound s T n e) room f.counted f.within (was_read e h) in
          is ∙ ap (Done count) (answers_same f'.judged f.judged)
