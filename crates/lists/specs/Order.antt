-- The order of rows (document 01, "The table, in file order": "Each list is strictly ascending, compared number by number from the left").
use Rattle.std.specs.Prelude.{ℕ, ◌≡◌, Bool, true, false, List, [], ◌∷◌, ltb, eqb}
use Rattle.numbers.specs.Reading.{pick}

-- the first row is below the second, compared number by number from the left; no row, [], is below every row
unfoldable pub below : List ℕ → List ℕ → Bool
below l [] = false
below [] (b ∷ bs) = true
below (a ∷ l) (b ∷ bs) = pick (eqb a b) (below l bs) (ltb a b)

-- each row is above the one before it, and the first above `old`
pub data Above : List ℕ → List (List ℕ) → Type 0 where
  none : {old : List ℕ} → Above old []
  row : {old r : List ℕ} {rs : List (List ℕ)} → below old r ≡ true → Above r rs → Above old (r ∷ rs)

-- strictly ascending rows
abbrev pub Ascending : List (List ℕ) → Type 0
Ascending rs = Above [] rs
