-- The header of a table file: all that stands before the count of step rows (document 01, "The table, in file order").
use Rattle.std.specs.Prelude.{ℕ, List, [], ◌∷◌, get_or}
use Rattle.numbers.specs.Reading.{Out, got, then, version_at}
use Rattle.cells.specs.declared.columns.Column.{Column}
use Rattle.cells.specs.declared.columns.Column.TheVariants.{Within, Below, Absent}
use Rattle.cells.specs.declared.columns.Sizes.{Sizes}
use Rattle.files.specs.declared.header.Header.{Header}
use Rattle.cells.specs.Columns.{per_thread}
use Rattle.cells.specs.Rows.{row_at}
use Rattle.files.specs.Table.{most_threads, most_shared, most_locals, most_frames}

-- ---- the columns of its three parts

-- threads 1..4, shared stores 1..16, local stores 1..16, frames 0..8
abbrev pub size_columns : List Column
size_columns = Within 1 most_threads ∷ Within 1 most_shared ∷ Within 1 most_locals ∷ Within 0 most_frames ∷ Absent ∷ []

-- failed 0..L; the initial shared store 0..G-1
abbrev pub place_columns : Sizes → List Column
place_columns z = Within 0 z.locals ∷ Below z.shared ∷ Absent ∷ Absent ∷ Absent ∷ []

-- the initial local store 0..L-1, one per thread
abbrev pub local_columns : Sizes → List Column
local_columns z = per_thread z.threads (Below z.locals) (Absent ∷ [])

-- ---- the header

abbrev pub sizes_of : List ℕ → Sizes
sizes_of z = record { threads = get_or z 0 0; shared = get_or z 1 0; locals = get_or z 2 0; frames = get_or z 3 0 }

-- each thread's cell, and 0 for the threads that are not there
abbrev pub four_of : List ℕ → List ℕ
four_of ls = get_or ls 0 0 ∷ get_or ls 1 0 ∷ get_or ls 2 0 ∷ get_or ls 3 0 ∷ []

abbrev pub header_of : List ℕ → List ℕ → List ℕ → Header
header_of z q ls = record { sizes = sizes_of z; failed = get_or q 0 0; start = get_or q 1 0; firsts = four_of ls }

-- version 1; the four sizes; failed and the initial shared store; each thread's initial local store
unfoldable pub header_at : List ℕ → Out Header
header_at s =
    then (version_at s) λ _ p.
    then (row_at size_columns s p) λ z p.
    then (row_at (place_columns (sizes_of z)) s p) λ q p.
    then (row_at (local_columns (sizes_of z)) s p) λ ls p.
    got (header_of z q ls) p
