-- Places in a file (document 01, "Numbers": a reader "moves on only past whole numbers").
use Rattle.std.specs.Prelude.{ℕ, ◌-◌, List, Result, Ok, Err, length}
use Rattle.numbers.specs.declared.refusals.Refusal.{Refusal}
use Rattle.numbers.specs.declared.reading.Part.{Part}

-- the place past a whole number; of one that was refused, the place where it stands
abbrev pub past_of : ℕ → Result (Part ℕ) Refusal → ℕ
past_of at (Ok number) = number.next
past_of at (Err r) = at

-- how many bytes of s there are from `at` on: 0 at the end and past it
abbrev pub left_from : List ℕ → ℕ → ℕ
left_from s at = length s - at
