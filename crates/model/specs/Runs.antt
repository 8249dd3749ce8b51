-- States and runs of a table (01, "Runs and error states"; 004, section 3, "Basic PDA model checking").
use Rattle.std.specs.Prelude.{◌≡◌, List, [], ◌∷◌, ℕ, get_or, set, replicate}
use Rattle.files.specs.Table.{Table}
use Rattle.model.specs.Taken.{Steps, Pushes, Pops}

-- a shared store, and for each thread a local store and a stack, the top first
pub record State : Type 0 where
  pub shared : ℕ
  pub locals : List ℕ
  pub stacks : List (List ℕ)

-- "All stacks start empty."
abbrev pub begin : Table → State
begin T = record { shared = T.g₀; locals = T.locals; stacks = replicate T.n [] }

-- One move of thread t. Push and pop never change the shared store, and a pop needs its frame on top.
pub data Moves (T : Table) (t : ℕ) : State → State → Type 0 where
  step : {g : ℕ} {ls : List ℕ} {ss : List (List ℕ)} {g' l' : ℕ} → Steps T t g (get_or ls t 0) g' l'
      → Moves T t (record { shared = g; locals = ls; stacks = ss }) (record { shared = g'; locals = set ls t l'; stacks = ss })
  push : {g : ℕ} {ls : List ℕ} {ss : List (List ℕ)} {l' f : ℕ} → Pushes T t g (get_or ls t 0) l' f
      → Moves T t (record { shared = g; locals = ls; stacks = ss })
      (record { shared = g; locals = set ls t l'; stacks = set ss t (f ∷ get_or ss t []) })
  pop : {g : ℕ} {ls : List ℕ} {ss : List (List ℕ)} {f : ℕ} {rest : List ℕ} {l' : ℕ} → get_or ss t [] ≡ f ∷ rest
      → Pops T t g (get_or ls t 0) f l'
      → Moves T t (record { shared = g; locals = ls; stacks = ss }) (record { shared = g; locals = set ls t l'; stacks = set ss t rest })

-- the states that runs from the start reach: of any length, in any order of threads, with stacks of any depth
pub data Run (T : Table) : State → Type 0 where
  first : Run T (begin T)
  next : {t : ℕ} {s s' : State} → Run T s → Moves T t s s' → Run T s'
