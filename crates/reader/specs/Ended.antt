-- What the private function `ended` answers (document 01, "What comes back": 6, bytes after the end). Only its contract cites this file.
use Rattle.std.specs.Prelude.{ℕ, Result, Ok, Err, eqb}
use Rattle.numbers.specs.Reading.{pick}
use Rattle.numbers.specs.declared.refusals.Refusal.{Refusal}
use Rattle.numbers.specs.declared.refusals.Refusal.TheVariants.{After}

-- the end of a file at a place where so many bytes are left
abbrev pub ended_of : ℕ → ℕ → Result ℕ Refusal
ended_of left place = pick (eqb left 0) (Ok place) (Err (After place))
