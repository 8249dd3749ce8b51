-- A number with a range (document 01, "What comes back": 4, a number outside its range).
use Rattle.std.specs.Prelude.{ℕ, Result, Ok, Err, ltb}
use Rattle.numbers.specs.Reading.{pick}
use Rattle.numbers.specs.declared.refusals.Refusal.{Refusal}
use Rattle.numbers.specs.declared.refusals.Refusal.TheVariants.{Outside}
use Rattle.numbers.specs.declared.reading.Part.{Part}

-- a number that was read at a place, if it is at least `low` and below `end`: else it is outside, and that is told of its place
abbrev pub ranged_of : ℕ → ℕ → ℕ → Result (Part ℕ) Refusal → Result (Part ℕ) Refusal
ranged_of at low end (Ok number) =
    pick (ltb number.value low) (Err (Outside at)) (pick (ltb number.value end) (Ok number) (Err (Outside at)))
ranged_of at low end (Err r) = Err r
