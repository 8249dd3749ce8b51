-- What finding a list of rows answers (document 01, "The table, in file order").
use Rattle.std.specs.Prelude.{ℕ, List, Result, Ok, Err, length}
use Rattle.numbers.specs.declared.refusals.Refusal.{Refusal}
use Rattle.numbers.specs.declared.reading.Part.{Part}
use Rattle.numbers.specs.Reading.{Out, got, bad, part}
use Rattle.reader.specs.Ends.{after}
use Rattle.cells.specs.declared.columns.Column.{Column}
use Rattle.lists.specs.Lists.{list_at}

-- how many rows there are, with the place past them
abbrev pub list_of : Out (List (List ℕ)) → Result (Part ℕ) Refusal
list_of (got rs next) = Ok (part (length rs) next)
list_of (bad r) = Err r

abbrev pub list_after : Result ℕ Refusal → ℕ → List Column → List ℕ → Out (List (List ℕ))
list_after before most cs s = after before (list_at most cs s)
