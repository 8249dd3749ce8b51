-- Sets of uses of rules at positions of a memory: the marks at q and at x give the mark at y. These are numbers alone; no table is in them.
use Rattle.std.specs.Prelude.{◌≡◌, ◌⊎◌, List, ℕ, ◌+◌, ◌<◌}
use Rattle.store.specs.Marking.{Has}

-- a set of uses, by which q and x give which y
abbrev pub Uses : Type 1
Uses = ℕ → ℕ → ℕ → Type 0

-- the use of a rule with one premise: it stands for both
abbrev pub Single : ℕ → ℕ → Uses
Single x y q x' y' = (q ≡ x) × (x' ≡ x) × (y' ≡ y)

-- uses with one premise, and p as the other
abbrev pub With : ℕ → Uses → Uses
With p U q x y = (q ≡ p) × U x x y

-- uses that are taken only if A
abbrev pub Under : Type 0 → Uses → Uses
Under A U q x y = A × U q x y

abbrev pub Either : Uses → Uses → Uses
Either A B q x y = A q x y ⊎ B q x y

-- the first n sets of a sequence of sets
pub record Upto (A : ℕ → ℕ → ℕ → ℕ → Type 0) (n q x y : ℕ) : Type 0 where
  pub k : ℕ
  pub lt : k < n
  pub given : A k q x y

-- use j of a line: x + j gives y + j
abbrev pub Line : ℕ → ℕ → ℕ → Uses
Line x y j = Single (x + j) (y + j)

-- a use gives y from marks, and there is no mark at y
pub record Lacks (U : ℕ → ℕ → ℕ → Type 0) (m : List ℕ) (y : ℕ) : Type 0 where
  pub q : ℕ
  pub x : ℕ
  pub given : U q x y
  pub has_q : Has m q
  pub has_x : Has m x
  pub not : ¬ Has m y
