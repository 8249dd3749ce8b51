-- Erroneous states with their row numbers (01, "Runs and error states"), and which errors a set of facts allows (01, "The rules").
use Rattle.std.specs.Prelude.{◌≡◌, ◌⊎◌, List, ℕ, suc, ◌<◌, length, get_or}
use Rattle.std.proofs.Math.Option.{some}
use Rattle.std.proofs.Math.ListN.{get_elem?}
use Rattle.files.specs.Table.{Table, Error}
use Rattle.model.specs.Rules.{Fact, P}
use Rattle.model.specs.Runs.{State}

-- "Error cells: 0 = any, k+1 = store k"
abbrev pub Cell : ℕ → ℕ → Type 0
Cell c k = (c ≡ 0) ⊎ (c ≡ suc k)

-- an error row matches the shared store g and the local stores ls
pub record Matches (T : Table) (r : Error) (g : ℕ) (ls : List ℕ) : Type 0 where
  pub shared : Cell r.shared g
  pub locals : (t : ℕ) → t < T.n → Cell (get_or r.locals t 0) (get_or ls t 0)

-- g, ls are erroneous by a row: by row 0 if some thread's local store is the failed one, or by a row of the file, counted from 1, that matches
pub data Erroneous (T : Table) (g : ℕ) (ls : List ℕ) : ℕ → Type 0 where
  failed : (t : ℕ) → t < T.n → T.failed ≡ suc (get_or ls t 0) → Erroneous T g ls 0
  matched : (i : ℕ) (r : Error) → get_elem? T.errors i ≡ some r → Matches T r g ls → Erroneous T g ls (suc i)

-- "Stacks don't matter."
abbrev pub ErrorState : Table → State → Type 0
ErrorState T s = (row : ℕ) × Erroneous T s.shared s.locals row

-- "A place (g,l) is reached by t if some P of t ends there."
pub record Reaches (S : Fact → Type 0) (t g l : ℕ) : Type 0 where
  pub g₁ : ℕ
  pub l₁ : ℕ
  pub fact : S (P t g₁ l₁ g l)

-- what a witness says: by which row, at which shared store, with which local stores from thread 0
pub record Witness : Type 0 where
  pub row : ℕ
  pub shared : ℕ
  pub locals : List ℕ

-- S allows an error: each thread reaches its own local store at the one shared store, and the two are erroneous by the row
pub record Allows (T : Table) (S : Fact → Type 0) (w : Witness) : Type 0 where
  pub count : length w.locals ≡ T.n
  pub erroneous : Erroneous T w.shared w.locals w.row
  pub reached : (t : ℕ) → t < T.n → Reaches S t w.shared (get_or w.locals t 0)

-- S allows no error
abbrev pub Safe : Table → (Fact → Type 0) → Type 0
Safe T S = (w : Witness) → ¬ Allows T S w
