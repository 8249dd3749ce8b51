-- What the private functions answer: the parts of a table file, found and kept. Only their contracts cite this file.
use Rattle.std.specs.Prelude.{ℕ, ◌≡◌, List, length}
use Rattle.numbers.specs.Reading.{Out, then}
use Rattle.reader.specs.Ends.{at_end}
use Rattle.cells.specs.Columns.{step_columns, push_columns, pop_columns, error_columns}
use Rattle.lists.specs.Lists.{list_at}
use Rattle.lists.specs.Keeping.{list_held}
use Rattle.files.specs.declared.table.Parts.{Parts}
use Rattle.files.specs.declared.table.TableRows.{TableRows}
use Rattle.files.specs.Table.{most_steps, most_pushes, most_pops, most_errors}
use Rattle.files.specs.Header.{header_at}

-- the header, the four lists, each after the part before it, and nothing after them
unfoldable pub parts_at : List ℕ → Out Parts
parts_at s =
    then (header_at s) λ h p₀.
    then (list_at most_steps (step_columns h.sizes) s p₀) λ steps p₁.
    then (list_at most_pushes (push_columns h.sizes) s p₁) λ pushes p₂.
    then (list_at most_pops (pop_columns h.sizes) s p₂) λ pops p₃.
    then (list_at most_errors (error_columns h.sizes) s p₃) λ errors p.
    at_end
    (record {
      header = h;
      counts = record { steps = length steps; pushes = length pushes; pops = length pops; errors = length errors };
      steps = p₀;
      pushes = p₁;
      pops = p₂;
      errors = p₃;
    })
    s p

-- a list of the file at its place
abbrev pub steps_in : Parts → List ℕ → Out (List (List ℕ))
steps_in p s = list_at most_steps (step_columns p.header.sizes) s p.steps

abbrev pub pushes_in : Parts → List ℕ → Out (List (List ℕ))
pushes_in p s = list_at most_pushes (push_columns p.header.sizes) s p.pushes

abbrev pub pops_in : Parts → List ℕ → Out (List (List ℕ))
pops_in p s = list_at most_pops (pop_columns p.header.sizes) s p.pops

abbrev pub errors_in : Parts → List ℕ → Out (List (List ℕ))
errors_in p s = list_at most_errors (error_columns p.header.sizes) s p.errors

-- what the memory holds afterwards: the rows of each list
pub record PartsKept (s : List ℕ) (p : Parts) (rows rows' : TableRows) : Type 0 where
  pub steps : rows'.steps ≡ list_held (steps_in p s) rows.steps
  pub pushes : rows'.pushes ≡ list_held (pushes_in p s) rows.pushes
  pub pops : rows'.pops ≡ list_held (pops_in p s) rows.pops
  pub errors : rows'.errors ≡ list_held (errors_in p s) rows.errors
