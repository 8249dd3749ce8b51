-- The two tables of 004's Simple, by the rule of document 01 that crate training gives. In the training table thread t's mutex mark is t + 1; in
-- the other one the mutex is true or false, and its mark is 1 for both threads.
-- The training table has 57 facts and is safe. With the true/false mutex a failure is possible, though real runs never fail there: a
-- guarantee does not say who holds the mutex, so each thread's facts let the other change x at any time (004, section 1.2).
use mathlib.Core.Path.{◌≡◌, refl}
use mathlib.Core.Logic.{ite}
use mathlib.Core.Option.{none, some}
use mathlib.Core.List.{List, [], ◌∷◌, ◌++◌, map, flat_map}
use Prim.Native.Nat.{ℕ, zero, suc, ◌+◌, ◌*◌}
use native.Mathlib.Decide.{ℕ_discrete}
use native.Mathlib.Omega.{arith}
use lib.ListN.{length}
use Rattle.training.specs.Training.{training, mutex}
use Rattle.model.specs.Rules.{Fact, G, P, Derives}
use Rattle.model.specs.Memory.{FactCount}
use Rattle.model.specs.Verdict.{Verdict}
use Rattle.model.proofs.Decide.{decided}
use Rattle.model.proofs.Decide.Least.{Exact, exact?, exact_count, exact_verdict}
use Rattle.model.proofs.Decide.Errors.{verdict?}

-- k numbers from i on
range : ℕ → ℕ → List ℕ
range i zero = []
range i (suc k) = i ∷ range (i + 1) k

-- ---- the training table

-- The facts, in position order. While t holds the mutex, with mark t + 1, only t moves the shared store. Elsewhere t is at its first
-- location or its last.
guarantees : ℕ → List Fact
guarantees t =
    G t 1 (2 * t + 3) ∷ G t (2 * t + 2) (2 * t + 3) ∷ G t (2 * t + 3) 1 ∷ G t (2 * t + 3) (2 * t + 2) ∷ G t (2 * t + 3) (2 * t + 3) ∷ []

at : ℕ → ℕ → List ℕ → List Fact
at t g ls = map (λ l. P t 1 0 g l) ls

places_at : ℕ → ℕ → List Fact
unfolding ℕ_discrete at
places_at t m =
    ite (ℕ_discrete m (t + 1)) (at t (2 * m) (2 ∷ []) ++ at t (2 * m + 1) (1 ∷ 3 ∷ 4 ∷ []))
    (at t (2 * m) (0 ∷ 5 ∷ []) ++ at t (2 * m + 1) (0 ∷ 5 ∷ []))

places : ℕ → List Fact
unfolding flat_map range places_at
places t = at t 1 (0 ∷ 5 ∷ []) ++ flat_map (places_at t) (range 1 3)

fifteen : List Fact
unfolding flat_map range guarantees
fifteen = flat_map guarantees (range 0 3)

forty_two : List Fact
unfolding flat_map range places
forty_two = flat_map places (range 0 3)

training_counts : (length fifteen ≡ 15) × (length forty_two ≡ 42)
unfolding fifteen forty_two
training_counts = (refl, refl)

training_exact : Exact training 4 (fifteen ++ forty_two)
unfolding training fifteen forty_two exact?
training_exact = decided (exact? training 4 (fifteen ++ forty_two)) tt

pub training_facts : FactCount training 57
unfolding fifteen forty_two
training_facts = exact_count training_exact

pub training_safe : Verdict training (Derives training) none
unfolding training fifteen forty_two verdict?
training_safe = exact_verdict training_exact (decided (verdict? training (omega arith) (fifteen ++ forty_two) none) tt)

-- ---- the true/false mutex

-- every place seems to be reached
mutex_facts : List Fact
unfolding flat_map range at
mutex_facts =
    flat_map
    (λ t.
    G t 0 0 ∷ G t 0 1 ∷ G t 0 2 ∷ G t 1 0 ∷ G t 1 1 ∷ G t 1 3 ∷ G t 2 0 ∷ G t 2 2 ∷ G t 2 3 ∷ G t 3 1 ∷ G t 3 2 ∷ G t 3 3 ∷ [])
    (range 0 2)
    ++ flat_map (λ t. flat_map (λ g. at t g (range 0 7)) (range 0 4)) (range 0 2)

mutex_exact : Exact mutex 5 mutex_facts
unfolding mutex mutex_facts exact?
mutex_exact = decided (exact? mutex 5 mutex_facts) tt

pub mutex_possible : Verdict mutex (Derives mutex) (some (record { row = 0; shared = 0; locals = 0 ∷ 6 ∷ [] }))
unfolding mutex mutex_facts verdict?
mutex_possible = exact_verdict mutex_exact (decided (verdict? mutex (omega arith) mutex_facts (some _)) tt)
