-- What the private functions answer. Only their contracts cite this file.
use Rattle.std.specs.Prelude.{◌≡◌, ◌≤◌, List, [], ◌∷◌, ℕ, length, Option, Some, None}
use Rattle.files.specs.Table.{most_facts}
use Rattle.claim_of_marks.specs.declared.writing.Totals.{Totals}
use Rattle.claim_reader.specs.Stages.{position_bytes}

-- how many positions there are, and how many bytes they take in a claim
abbrev pub totals_of : List ℕ → Totals
totals_of ps = record { count = length ps; width = length (position_bytes 0 ps) }

-- the first of a list is taken, which is no larger than a number of facts, and the rest is left; of an empty list, nothing
abbrev pub Takes : List ℕ → Option ℕ → List ℕ → Type 0
Takes ns None rest = (ns ≡ []) × (rest ≡ [])
Takes ns (Some n) rest = (ns ≡ n ∷ rest) × (n ≤ most_facts)
