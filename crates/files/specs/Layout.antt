-- The numbers of a table in file order (document 01, "The table, in file order").
use mathlib.Core.List.{List, ◌∷◌, ◌++◌, flat_map}
use Rattle.std.specs.Prelude.{ℕ, length}
use Rattle.files.specs.Table.{Table, Error, step_cells, push_cells, pop_cells}

-- an error row in a file: the shared cell and a cell for each thread that is there
abbrev pub error_numbers : Error → List ℕ
error_numbers r = r.shared ∷ r.locals

-- the count of a list's rows, then their numbers
unfoldable pub listed : {A : Type 0} → (A → List ℕ) → List A → List ℕ
unfolding flat_map
listed numbers rows = length rows ∷ flat_map numbers rows

-- the header, which begins with version 1, then the four lists
unfoldable pub numbers_of : Table → List ℕ
unfolding listed
numbers_of T =
    1 ∷ T.n ∷ T.G ∷ T.L ∷ T.F ∷ T.failed ∷ T.g₀ ∷ T.locals
    ++ listed step_cells T.steps
    ++ listed push_cells T.pushes
    ++ listed pop_cells T.pops
    ++ listed error_numbers T.errors
