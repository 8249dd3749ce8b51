-- Whether two names are the same.
use Rattle.std.specs.Prelude.{◌≡◌, Bool, true, false, List, ℕ}

abbrev pub SameName : List ℕ → List ℕ → Bool → Type 0
SameName a b true = a ≡ b
SameName a b false = ¬ (a ≡ b)
