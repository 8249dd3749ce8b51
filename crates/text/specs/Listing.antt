-- The lines of the listing but for those of facts, to the letter (document 01, "Reference tables and results"), and those of the programs on claims.
use Rattle.std.specs.Prelude.{List, [], ◌∷◌, ℕ}
use Rattle.words.specs.Text.{bytes, line}

-- "facts 5"
abbrev pub facts_line : ℕ → List ℕ
facts_line count = line (bytes "facts") (count ∷ [])

abbrev pub safe_line : List ℕ
safe_line = line (bytes "verdict safe") []

-- "row, g and the locals from thread 0", as "verdict possible 0 0 0 6"
abbrev pub possible_line : ℕ → ℕ → List ℕ → List ℕ
possible_line row g locals = line (bytes "verdict possible") (row ∷ g ∷ locals)

-- "with number and value", as "refused 1 0"
abbrev pub refused_line : ℕ → ℕ → List ℕ
refused_line number value = line (bytes "refused") (number ∷ value ∷ [])

-- ---- the lines of the programs on claims

-- the number of bytes that a written claim takes, as "bytes 7"
abbrev pub bytes_line : ℕ → List ℕ
bytes_line count = line (bytes "bytes") (count ∷ [])

-- an accepted claim with its count, as "accepted 5"
abbrev pub accepted_line : ℕ → List ℕ
accepted_line count = line (bytes "accepted") (count ∷ [])

-- a refusal of the claim check with number, value and origin: "refused 10 23 0"; "refused 4 2 1" is the claim's own
abbrev pub claim_refused_line : ℕ → ℕ → ℕ → List ℕ
claim_refused_line number value origin = line (bytes "refused") (number ∷ value ∷ origin ∷ [])
