-- The training table (document 01, "Reference tables and results"): the program Simple of document 004, section 1.1, run by three threads.
-- The rule of `simple` also makes document 01's other table of Simple, where two threads share a true/false mutex.
--
--     1: acquire;
--     2: x := 0;
--     3: x := x + 1;
--     4: assert x > 0;
--     5: release;
--     6:
--
-- The table is given by rule. Each list goes through threads, stores and cells in ascending order, so its rows come out ascending.
use Rattle.std.specs.Prelude.{Bool, true, false, cond, ℕ, zero, suc, ◌+◌, ◌-◌, ◌*◌, length, replicate, eqb}
use mathlib.Core.List.{List, [], ◌∷◌, ◌++◌, flat_map}
use Rattle.files.specs.Table.{Table, Step, Error}

-- ---- lists by rule

-- what f gives for each entry, one after the other
abbrev each : {A B : Type 0} → List A → (A → List B) → List B
each xs f = flat_map f xs

-- an entry, where the test passes
only : {A : Type 0} → Bool → A → List A
only true a = a ∷ []
only false a = []

-- ---- the stores

-- the shared store of mutex m and variable x
abbrev shared : ℕ → ℕ → ℕ
shared m x = 2 * m + x

-- the local store of a location
abbrev store : ℕ → ℕ
store location = location - 1

-- the local store of a thread whose assertion failed
abbrev failed_store : ℕ
failed_store = 6

-- a store where 0 is taken: by "any" in an error row, by "no failed store" in the header
abbrev cell : ℕ → ℕ
cell k = k + 1

abbrev any : ℕ
any = 0

-- ---- the step rows

-- mark t is what thread t puts into the mutex; a free mutex is 0
module _ (mark : ℕ → ℕ) (t m x : ℕ) where
  -- thread t moves from a location, at mutex m and variable x
  abbrev row : ℕ → ℕ → ℕ → Step
  row location g' l' = record { t = t; g = shared m x; l = store location; g' = g'; l' = l' }

  -- a line for each statement
  statements : List Step
  unfolding only
  statements =
      only (eqb m 0) (row 1 (shared (mark t) x) (store 2))  -- acquire, where the mutex is free
      ++ row 2 (shared m 0) (store 3) ∷ []  -- x := 0
      ++ only (eqb x 0) (row 3 (shared m (x + 1)) (store 4))  -- x := x + 1, within the variable's two values
      ++ row 4 (shared m x) (cond (eqb x 1) (store 5) failed_store) ∷ []  -- assert x > 0
      ++ row 5 (shared 0 x) (store 6) ∷ []  -- release

-- ---- the error rows

abbrev error : ℕ → ℕ → ℕ → ℕ → Error
error g a b c = record { shared = g; locals = a ∷ b ∷ c ∷ [] }

-- a thread in a race is at location 2, 3 or 4; one outside it is anywhere
abbrev places : List ℕ
places = any ∷ cell (store 2) ∷ cell (store 3) ∷ cell (store 4) ∷ []

-- 1 for a thread in the race, 0 for one outside it
racing : ℕ → ℕ
racing zero = 0
racing (suc k) = 1

-- two threads race
races : List Error
unfolding flat_map only racing
races = each places λ a. each places λ b. each places λ c. only (eqb (racing a + racing b + racing c) 2) (error any a b c)

-- the mutex is free, and x is still 0
abbrev unrestored : Error
unrestored = error (cell (shared 0 0)) any any any

-- ---- the tables

-- Threads, values of the mutex by two of the variable, six locations and the failed store, no frames. All threads start at location 1,
-- with the mutex free and x = 1.
unfoldable pub simple : List ℕ → List ℕ → (ℕ → ℕ) → List Error → Table
unfolding flat_map statements
simple threads mutexes mark errors =
    record {
      n = length threads;
      G = length mutexes * 2;
      L = 7;
      F = 0;
      failed = cell failed_store;
      g₀ = shared 0 1;
      locals = replicate (length threads) (store 1);
      steps = each threads λ t. each mutexes λ m. each (0 ∷ 1 ∷ []) λ x. statements mark t m x;
      pushes = [];
      pops = [];
      errors = errors;
    }

-- each thread has a mark of its own
unfoldable pub training : Table
unfolding simple races
training = simple (0 ∷ 1 ∷ 2 ∷ []) (0 ∷ 1 ∷ 2 ∷ 3 ∷ []) (λ t. t + 1) (races ++ unrestored ∷ [])

-- two threads with a true/false mutex: both put 1 into it
unfoldable pub mutex : Table
unfolding simple
mutex = simple (0 ∷ 1 ∷ []) (0 ∷ 1 ∷ []) (λ t. 1) []
