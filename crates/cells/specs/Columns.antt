-- The columns of the rows of a list, with the range of each (document 01, "The table, in file order").
use Rattle.std.specs.Prelude.{ℕ, ◌+◌, ◌≤◌, ◌<◌, ◌⊎◌, List, [], ◌∷◌, Option, Some, None, IfSome, ltb}
use Rattle.numbers.specs.Reading.{pick}
use Rattle.cells.specs.declared.columns.Column.{Column}
use Rattle.cells.specs.declared.columns.Column.TheVariants.{Within, Below, Absent}
use Rattle.cells.specs.declared.columns.Sizes.{Sizes}

-- a number is outside its column's range; a column that is not there has no number
abbrev pub OutOf : Column → ℕ → Type 0
OutOf (Within low most) v = (v < low) ⊎ (most < v)
OutOf (Below end) v = end ≤ v
OutOf Absent v = ⊥

-- the first number of a column and the one past the last
abbrev pub range_of : Column → Option (ℕ × ℕ)
range_of (Within low most) = Some (low, most + 1)
range_of (Below end) = Some (0, end)
range_of Absent = None

-- a number in the range fits a byte
abbrev pub ByteRange : Option (ℕ × ℕ) → Type 0
ByteRange o = IfSome o (λ range. range.1 ≤ 256)

-- the column of thread t, where there are n threads
abbrev pub of_thread : ℕ → ℕ → Column → Column
of_thread n t c = pick (ltb t n) c Absent

-- one column for each thread
abbrev pub per_thread : ℕ → Column → List Column → List Column
per_thread n c rest = of_thread n 0 c ∷ of_thread n 1 c ∷ of_thread n 2 c ∷ of_thread n 3 c ∷ rest

-- in rows, t is below n, shared stores below G, local stores below L, f below F. Step rows: t, g, l, g', l'
abbrev pub step_columns : Sizes → List Column
step_columns z = Below z.threads ∷ Below z.shared ∷ Below z.locals ∷ Below z.shared ∷ Below z.locals ∷ []

-- push rows: t, g, l, l', f
abbrev pub push_columns : Sizes → List Column
push_columns z = Below z.threads ∷ Below z.shared ∷ Below z.locals ∷ Below z.locals ∷ Below z.frames ∷ []

-- pop rows: t, g, l, f, l'
abbrev pub pop_columns : Sizes → List Column
pop_columns z = Below z.threads ∷ Below z.shared ∷ Below z.locals ∷ Below z.frames ∷ Below z.locals ∷ []

-- error rows: a shared cell 0..G, and a cell 0..L per thread
abbrev pub error_columns : Sizes → List Column
error_columns z = Within 0 z.shared ∷ per_thread z.threads (Within 0 z.locals) []
