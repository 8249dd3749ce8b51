-- A whole table file (document 01, "The table, in file order" and "What comes back"): the table that it holds, or the refusal.
use Rattle.std.specs.Prelude.{ℕ, ◌*◌, ◌≡◌, List, [], ◌∷◌, Result, Ok, Err, map, length, get_or, take, drop, replicate}
use Rattle.std.proofs.lemmas.List.Edits.{sets}
use Rattle.numbers.specs.declared.refusals.Refusal.{Refusal}
use Rattle.numbers.specs.Reading.{Out, got, bad, then}
use Rattle.reader.specs.Ends.{at_end}
use Rattle.files.specs.declared.header.Header.{Header}
use Rattle.files.specs.declared.table.Counts.{Counts}
use Rattle.files.specs.declared.table.TableRead.{TableRead}
use Rattle.files.specs.declared.table.TableRows.{TableRows}
use Rattle.files.specs.Table.{Table, Step, Push, Pop, Error, step_cells, push_cells, pop_cells, error_cells}
use Rattle.files.specs.Table.{most_steps, most_pushes, most_pops, most_errors}
use Rattle.cells.specs.Columns.{step_columns, push_columns, pop_columns, error_columns}
use Rattle.lists.specs.Lists.{list_at, flat}
use Rattle.files.specs.Header.{header_of, header_at}

-- ---- the table of a header and four lists of rows

abbrev pub step_of : List ℕ → Step
step_of r = record { t = get_or r 0 0; g = get_or r 1 0; l = get_or r 2 0; g' = get_or r 3 0; l' = get_or r 4 0 }

abbrev pub push_of : List ℕ → Push
push_of r = record { t = get_or r 0 0; g = get_or r 1 0; l = get_or r 2 0; l' = get_or r 3 0; f = get_or r 4 0 }

abbrev pub pop_of : List ℕ → Pop
pop_of r = record { t = get_or r 0 0; g = get_or r 1 0; l = get_or r 2 0; f = get_or r 3 0; l' = get_or r 4 0 }

-- of n threads
abbrev pub error_of : ℕ → List ℕ → Error
error_of n r = record { shared = get_or r 0 0; locals = take n (drop 1 r) }

abbrev pub table_of : Header → List (List ℕ) → List (List ℕ) → List (List ℕ) → List (List ℕ) → Table
table_of h steps pushes pops errors =
    record {
      n = h.sizes.threads;
      G = h.sizes.shared;
      L = h.sizes.locals;
      F = h.sizes.frames;
      failed = h.failed;
      g₀ = h.start;
      locals = take h.sizes.threads h.firsts;
      steps = map step_of steps;
      pushes = map push_of pushes;
      pops = map pop_of pops;
      errors = map (error_of h.sizes.threads) errors;
    }

-- ---- the file

-- the header, the four lists, and nothing after them
unfoldable pub table_at : List ℕ → Out Table
table_at s =
    then (header_at s) λ h p.
    then (list_at most_steps (step_columns h.sizes) s p) λ steps p.
    then (list_at most_pushes (push_columns h.sizes) s p) λ pushes p.
    then (list_at most_pops (pop_columns h.sizes) s p) λ pops p.
    then (list_at most_errors (error_columns h.sizes) s p) λ errors p.
    at_end (table_of h steps pushes pops errors) s p

-- ---- what the code answers

abbrev pub header_in : Table → Header
header_in T = header_of (T.n ∷ T.G ∷ T.L ∷ T.F ∷ []) (T.failed ∷ T.g₀ ∷ []) T.locals

abbrev pub counts_in : Table → Counts
counts_in T = record { steps = length T.steps; pushes = length T.pushes; pops = length T.pops; errors = length T.errors }

-- what is read of a table beside its rows, or the refusal
abbrev pub table_read_of : Out Table → Result TableRead Refusal
table_read_of (got T next) = Ok (record { header = header_in T; counts = counts_in T })
table_read_of (bad r) = Err r

-- a memory for the rows with nothing in it, five bytes a row
abbrev pub no_rows : TableRows
no_rows =
    record {
      steps = replicate (5 * most_steps) 0;
      pushes = replicate (5 * most_pushes) 0;
      pops = replicate (5 * most_pops) 0;
      errors = replicate (5 * most_errors) 0;
    }

-- the rows of a list, cell by cell
abbrev pub row_bytes : {Row : Type 0} → (Row → List ℕ) → List Row → List ℕ
row_bytes cells rows = flat (map cells rows)

-- what a list's memory d holds afterwards: its rows from the start on; a refusal changes nothing
abbrev pub held_in : (Table → List ℕ) → Out Table → List ℕ → List ℕ
held_in bytes (got T next) d = sets d 0 (bytes T)
held_in bytes (bad r) d = d

-- the contract of the table reader: the answer, and what the memory of each list holds
pub record TableIs (s : List ℕ) (r : Result TableRead Refusal) (rows rows' : TableRows) : Type 0 where
  pub answer : r ≡ table_read_of (table_at s)
  pub steps : rows'.steps ≡ held_in (λ T. row_bytes step_cells T.steps) (table_at s) rows.steps
  pub pushes : rows'.pushes ≡ held_in (λ T. row_bytes push_cells T.pushes) (table_at s) rows.pushes
  pub pops : rows'.pops ≡ held_in (λ T. row_bytes pop_cells T.pops) (table_at s) rows.pops
  pub errors : rows'.errors ≡ held_in (λ T. row_bytes error_cells T.errors) (table_at s) rows.errors
