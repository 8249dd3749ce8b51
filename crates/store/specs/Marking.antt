-- Marks in the lent memory (01, "Working memory and claims"): what the tests answer and the changes leave, by model's mark.
use Rattle.std.specs.Prelude.{◌≡◌, Bool, true, false, List, Option, Some, None, ℕ, ◌+◌, ◌<◌, ◌≤◌, set, length}
use Rattle.model.specs.Memory.{mark}
use Rattle.model.specs.Claims.{First}

-- how many marks a memory has room for
abbrev pub room : List ℕ → ℕ
room m = length m

-- there is a mark at p
unfoldable pub Has : List ℕ → ℕ → Type 0
Has m p = mark m p ≡ 1

-- one of the numbers below n is in A
pub record Among (A : ℕ → Type 0) (n : ℕ) : Type 0 where
  pub j : ℕ
  pub lt : j < n
  pub here : A j

-- there is a mark among the n places from x on
abbrev pub SomeIn : List ℕ → ℕ → ℕ → Type 0
SomeIn m x n = Among (λ j. Has m (x + j)) n

-- one of the n places from x on has a mark where its partner, of the n from y on, has none
abbrev pub LacksIn : List ℕ → ℕ → ℕ → ℕ → Type 0
LacksIn m x y n = Among (λ j. Has m (x + j) × ¬ Has m (y + j)) n

-- p is at or past `from`, below w, and marked
pub record MarkFrom (m : List ℕ) (from w p : ℕ) : Type 0 where
  pub past : from ≤ p
  pub below : p < w
  pub has : Has m p

-- the first mark at or past `from` and below w; or that there is none
abbrev pub NextMark : List ℕ → ℕ → ℕ → Option ℕ → Type 0
NextMark m from w (Some p) = First (MarkFrom m from w) p
NextMark m from w None = (p : ℕ) → ¬ MarkFrom m from w p

-- the memory with a mark put at p
unfoldable pub marked : List ℕ → ℕ → List ℕ
marked m p = set m p 1

-- no mark anywhere: every byte is 0
abbrev pub Clear : List ℕ → Type 0
Clear m = (p : ℕ) → p < room m → mark m p ≡ 0

-- what the answer of a test means
abbrev pub Is : Type 0 → Bool → Type 0
Is A true = A
Is A false = ¬ A
