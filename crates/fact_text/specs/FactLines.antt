-- The lines of facts in the listing, to the letter (document 01, "Reference tables and results").
use Rattle.std.specs.Prelude.{List, [], ◌∷◌, ℕ}
use Rattle.model.specs.Rules.{Fact, G, P, Q}
use Rattle.words.specs.Text.{bytes, line}

-- "fields in the order of the facts", as "G 0 0 1"
abbrev pub fact_line : Fact → List ℕ
fact_line (G t g g') = line (bytes "G") (t ∷ g ∷ g' ∷ [])
fact_line (P t g l g' l') = line (bytes "P") (t ∷ g ∷ l ∷ g' ∷ l' ∷ [])
fact_line (Q t g l f g' l') = line (bytes "Q") (t ∷ g ∷ l ∷ f ∷ g' ∷ l' ∷ [])
