-- The start facts that a memory marks, by looking where they stand: the first thread with no mark there lacks its start fact, and those before
-- it have theirs.
use mathlib.Core.Path.{◌≡◌, sym, ap, subst, ◌∙◌}
use mathlib.Core.List.{List}
use Prim.Native.Nat.{ℕ, ◌<◌, ◌≤◌}
use native.Mathlib.Omega.{arith}
use Rattle.std.proofs.Common.{Option, Some, None, MatchOption}
use Rattle.files.specs.Table.{Table, Sound}
use Rattle.model.specs.Rules.{start_fact}
use Rattle.model.specs.Positions.{pos}
use Rattle.model.specs.Memory.{Marked}
use Rattle.positions.specs.Plans.{Plan, plan_of}
use Rattle.store.specs.Marking.{Has}
use Rattle.store.proofs.MarkLaws.{has?, marked_has, has_marked}
use Rattle.engine.specs.Given.{StartOf}
use Rattle.engine.specs.StartFacts.{start_at}
use Rattle.engine.proofs.StartLaws.{start_fits, start_is}
use Rattle.findings.specs.Found.{Started}

-- a plan has its table's threads
pub threads_by : (T : Table) {s : Plan} → s ≡ plan_of T → s.n ≡ T.n
threads_by T plan = ap (λ (x : Plan). x.n) plan

module _ {T : Table} (sound : Sound T) {s : Plan} (plan : s ≡ plan_of T) {g : ℕ} {locals : List ℕ} (of : StartOf T g locals) where
  stands : (t : ℕ) → t < T.n → pos T (start_fact T t) ≡ start_at s g locals t
  stands t h = start_is sound of t h ∙ ap (λ (x : Plan). start_at x g locals t) (sym plan)

  start_marked : {m : List ℕ} (t : ℕ) → t < T.n → Has m (start_at s g locals t) → Marked T m (start_fact T t)
  start_marked t h a = has_marked (start_fact T t) (start_fits sound of t h) (stands t h) a

  marked_start : {m : List ℕ} (t : ℕ) → t < T.n → Marked T m (start_fact T t) → Has m (start_at s g locals t)
  marked_start {m} t h a = subst (Has m) (stands t h) (marked_has a)

  abbrev Lacks : List ℕ → ℕ → Type 0
  Lacks m t = ¬ Has m (start_at s g locals t)

  not_lacking : (m : List ℕ) (t : ℕ) → ¬ Lacks m t → Has m (start_at s g locals t)
  not_lacking m t n = go (has? m (start_at s g locals t))
    where
      go : Dec (Has m (start_at s g locals t)) → Has m (start_at s g locals t)
      go (yes h) = h
      go (no h) = absurd (n h)

  -- what is found of the threads
  pub started_found : (m : List ℕ) {n : ℕ} → n ≡ s.n → (r : Option ℕ)
      → MatchOption r ((t : ℕ) → 0 ≤ t → t < n → ¬ Lacks m t) (λ t. (0 ≤ t) × (t < n) × Lacks m t × ((u : ℕ) → 0 ≤ u → u < t → ¬ Lacks m u))
      → Started T m r
  started_found m threads None all = λ t h. start_marked t h (not_lacking m t (all t (omega arith) (omega (arith, threads_by T plan))))
  started_found m threads (Some t) (_, l, n, before) =
      let i : t < T.n = omega (arith, threads_by T plan) in
      record {
        here = record { thread = i; not = λ a. n (marked_start t i a) };
        none = λ u l a. a.not (start_marked u a.thread (not_lacking m u (before u (omega arith) l)));
      }
