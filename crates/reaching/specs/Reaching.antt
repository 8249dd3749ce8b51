-- The local stores that a thread reaches, the smallest that a cell fits, and the cells that a row asks of the threads at a shared store (01, "Runs
-- and error states", "The rules"). Only contracts of functions that ask for a plan, a memory or rows cite it.
use Rattle.std.specs.Prelude.{◌≡◌, List, ℕ, zero, suc, ◌+◌, ◌*◌, ◌<◌, get_or, Option, Some, None}
use Rattle.std.proofs.Math.Logic.{ite}
use Rattle.std.proofs.Math.Decide.{ℕ_discrete}
use Rattle.model.specs.Errors.{Cell}
use Rattle.model.specs.Claims.{First}
use Rattle.positions.specs.Plans.{Plan, pair, p_at}
use Rattle.store.specs.Marking.{Has}

-- cell j of row i, where the rows stand in a list of bytes, five to a row
abbrev pub row_cell : List ℕ → ℕ → ℕ → ℕ
row_cell rows i j = get_or rows (5 * i + j) 0

-- at g thread t reaches l ("some P of t ends there"): the P fact from some pair j to g, l is marked
pub record Reached (s : Plan) (m : List ℕ) (g t l : ℕ) : Type 0 where
  pub l_lt : l < s.l
  pub j : ℕ
  pub j_lt : j < s.k
  pub has : Has m (p_at s t (pair s g l) + j * s.k)

-- of the stores A that a thread reaches, l is one that the cell c fits
pub record Choice (A : ℕ → Type 0) (c l : ℕ) : Type 0 where
  pub fits : Cell c l
  pub reached : A l

-- r is the smallest number in A, which has none but below n; or A has none
abbrev pub Least : (ℕ → Type 0) → ℕ → Option ℕ → Type 0
Least A n None = (q : ℕ) → ¬ A q
Least A n (Some r) = (r < n) × First A r

-- u is the last number below t in A; or A has none there
abbrev pub Last : (ℕ → Type 0) → ℕ → Option ℕ → Type 0
Last A t None = (i : ℕ) → i < t → ¬ A i
Last A t (Some u) = (u < t) × A u × ((i : ℕ) → u < i → i < t → ¬ A i)

-- Of n threads, where thread t reaches the stores R t, u is the one for store k: the first whose smallest store is k, else the last that reaches
-- k, else none.
pub data Picked (R : ℕ → ℕ → Type 0) (n k : ℕ) (u : Option ℕ) : Type 0 where
  already : (t : ℕ) → u ≡ Some t → t < n → First (R t) k → ((i : ℕ) → i < t → ¬ First (R i) k) → Picked R n k u
  forced : ((i : ℕ) → i < n → ¬ First (R i) k) → Last (λ i. R i k) n u → Picked R n k u

-- What aim answers for a row at g. For row 0, no thread if there is no failed store, else the one for it. For a row of the file, no thread if
-- its shared cell does not fit g, else thread 0.
pub data Aimed (s : Plan) (failed : ℕ) (rows m : List ℕ) (row g : ℕ) (u : Option ℕ) : Type 0 where
  no_failed : row ≡ 0 → failed ≡ 0 → u ≡ None → Aimed s failed rows m row g u
  picked : (k : ℕ) → row ≡ 0 → failed ≡ suc k → Picked (Reached s m g) s.n k u → Aimed s failed rows m row g u
  unfit : (i : ℕ) → row ≡ suc i → ¬ Cell (row_cell rows i 0) g → u ≡ None → Aimed s failed rows m row g u
  fit : (i : ℕ) → row ≡ suc i → Cell (row_cell rows i 0) g → u ≡ Some 0 → Aimed s failed rows m row g u

-- the cell of thread t in a row; in row 0 it is the failed store for thread u, and any store for the others
unfoldable pub asked_cell : ℕ → List ℕ → ℕ → ℕ → ℕ → ℕ
asked_cell failed rows zero u t = ite (ℕ_discrete t u) failed 0
asked_cell failed rows (suc i) u t = row_cell rows i (1 + t)
