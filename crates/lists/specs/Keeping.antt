-- What was found is kept in memory: a cell, a row, and a list. Only the contract of `keep_list`, which asks for a list that was found and for room, and
-- those of private functions cite this file.
use Rattle.std.specs.Prelude.{ℕ, ◌<◌, ◌≡◌, List, set}
use Rattle.std.proofs.lemmas.List.Edits.{sets}
use Rattle.numbers.specs.Reading.{Out, got, bad}
use Rattle.lists.specs.Lists.{flat}

-- it was read whole, with no refusal
abbrev pub Found : {A : Type 0} → Out A → Type 0
Found {A} o = (a : A) × (next : ℕ) × (o ≡ got a next)

-- so was a number, and it fits a byte
abbrev pub FoundByte : Out ℕ → Type 0
FoundByte o = (v : ℕ) × (next : ℕ) × (o ≡ got v next) × (v < 256)

-- a cell that was found is kept at `to`: `past` is the place past it, and the memory d became d'
pub record CellKept (o : Out ℕ) (to : ℕ) (d d' : List ℕ) (past : ℕ) : Type 0 where
  pub value : ℕ
  pub was : o ≡ got value past
  pub held : d' ≡ set d to value

-- so is a row, from `base` on
pub record RowKept (o : Out (List ℕ)) (base : ℕ) (d d' : List ℕ) (past : ℕ) : Type 0 where
  pub cells : List ℕ
  pub was : o ≡ got cells past
  pub held : d' ≡ sets d base cells

-- what a list's memory d holds afterwards: its rows from the start on; a refusal changes nothing
abbrev pub list_held : Out (List (List ℕ)) → List ℕ → List ℕ
list_held (got rs next) d = sets d 0 (flat rs)
list_held (bad r) d = d
