-- A table (document 01, "The table, in file order"): what a file says, with no bytes in it, and when every number of it is in its range.
-- Crate model knows a table by these records alone.
use Rattle.std.specs.Prelude.{◌≡◌, ℕ, ◌+◌, ◌*◌, ◌≤◌, ◌<◌, length, get_or}
use mathlib.Core.List.{List, [], ◌∷◌, map, Memᴰ}
use Rattle.lists.specs.Order.{Ascending}

-- ---- the limits

abbrev pub most_threads : ℕ
most_threads = 4

abbrev pub most_shared : ℕ
most_shared = 16

abbrev pub most_locals : ℕ
most_locals = 16

abbrev pub most_frames : ℕ
most_frames = 8

abbrev pub most_steps : ℕ
most_steps = 1024

abbrev pub most_pushes : ℕ
most_pushes = 256

abbrev pub most_pops : ℕ
most_pops = 256

abbrev pub most_errors : ℕ
most_errors = 64

-- ---- a table

-- a step row moves thread t at g, l to g', l'
pub record Step : Type 0 where
  pub t : ℕ
  pub g : ℕ
  pub l : ℕ
  pub g' : ℕ
  pub l' : ℕ

-- a push row moves thread t at g, l to l' and pushes f
pub record Push : Type 0 where
  pub t : ℕ
  pub g : ℕ
  pub l : ℕ
  pub l' : ℕ
  pub f : ℕ

-- a pop row moves thread t at g, l with f on top to l' and removes f
pub record Pop : Type 0 where
  pub t : ℕ
  pub g : ℕ
  pub l : ℕ
  pub f : ℕ
  pub l' : ℕ

-- an error row: a cell for the shared store and one for each thread's local store; 0 is any, k + 1 is store k
pub record Error : Type 0 where
  pub shared : ℕ
  pub locals : List ℕ

-- n threads, G shared stores, L local stores, F frames; failed is 0 for no failed store and k + 1 for local store k;
-- g₀ is the initial shared store, and locals has each thread's initial local store
pub record Table : Type 0 where
  pub n : ℕ
  pub G : ℕ
  pub L : ℕ
  pub F : ℕ
  pub failed : ℕ
  pub g₀ : ℕ
  pub locals : List ℕ
  pub steps : List Step
  pub pushes : List Push
  pub pops : List Pop
  pub errors : List Error

-- ---- the cells of a row, in file order: five, with 0 for the threads that are not there

abbrev pub step_cells : Step → List ℕ
step_cells r = r.t ∷ r.g ∷ r.l ∷ r.g' ∷ r.l' ∷ []

abbrev pub push_cells : Push → List ℕ
push_cells r = r.t ∷ r.g ∷ r.l ∷ r.l' ∷ r.f ∷ []

abbrev pub pop_cells : Pop → List ℕ
pop_cells r = r.t ∷ r.g ∷ r.l ∷ r.f ∷ r.l' ∷ []

abbrev pub error_cells : Error → List ℕ
error_cells r = r.shared ∷ get_or r.locals 0 0 ∷ get_or r.locals 1 0 ∷ get_or r.locals 2 0 ∷ get_or r.locals 3 0 ∷ []

-- ---- every number in its range

pub record StepFits (T : Table) (r : Step) : Type 0 where
  pub t : r.t < T.n
  pub g : r.g < T.G
  pub l : r.l < T.L
  pub g' : r.g' < T.G
  pub l' : r.l' < T.L

pub record PushFits (T : Table) (r : Push) : Type 0 where
  pub t : r.t < T.n
  pub g : r.g < T.G
  pub l : r.l < T.L
  pub l' : r.l' < T.L
  pub f : r.f < T.F

pub record PopFits (T : Table) (r : Pop) : Type 0 where
  pub t : r.t < T.n
  pub g : r.g < T.G
  pub l : r.l < T.L
  pub f : r.f < T.F
  pub l' : r.l' < T.L

pub record ErrorFits (T : Table) (r : Error) : Type 0 where
  pub shared : r.shared ≤ T.G
  pub count : length r.locals ≡ T.n
  pub locals : (t : ℕ) → t < T.n → get_or r.locals t 0 ≤ T.L

-- a list of rows: no more of them than its limit, each in range, strictly ascending
pub record Rows {A : Type 0} (most : ℕ) (Fits : A → Type 0) (cells : A → List ℕ) (rows : List A) : Type 0 where
  pub count : length rows ≤ most
  pub fits : (r : A) → Memᴰ r rows → Fits r
  pub ascending : Ascending (map cells rows)

-- what is known of a table that the reader accepts
pub record Sound (T : Table) : Type 0 where
  pub n : (1 ≤ T.n) × (T.n ≤ most_threads)
  pub G : (1 ≤ T.G) × (T.G ≤ most_shared)
  pub L : (1 ≤ T.L) × (T.L ≤ most_locals)
  pub F : T.F ≤ most_frames
  pub failed : T.failed ≤ T.L
  pub g₀ : T.g₀ < T.G
  pub count : length T.locals ≡ T.n
  pub locals : (t : ℕ) → t < T.n → get_or T.locals t 0 < T.L
  pub steps : Rows most_steps (StepFits T) step_cells T.steps
  pub pushes : Rows most_pushes (PushFits T) push_cells T.pushes
  pub pops : Rows most_pops (PopFits T) pop_cells T.pops
  pub errors : Rows most_errors (ErrorFits T) error_cells T.errors

-- ---- how many facts it may have (document 01, "Working memory and claims")

unfoldable pub w_of : ℕ → ℕ → ℕ → ℕ → ℕ
w_of n G L F = n * (G * G) * (1 + L * L * (1 + F))

unfoldable pub W : Table → ℕ
unfolding w_of
W T = w_of T.n T.G T.L T.F

-- the largest W: "at most 2,360,320"
abbrev pub most_facts : ℕ
most_facts = 2360320
