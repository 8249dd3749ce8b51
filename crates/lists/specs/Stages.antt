-- What the private functions answer: the row before. Only their contracts cite this file.
use Rattle.std.specs.Prelude.{ℕ, List, [], Option, Some, None}

-- the row before; no row, [], where there is none
abbrev pub old_of : Option (List ℕ) → List ℕ
old_of None = []
old_of (Some old) = old
