-- The refusals of a file (document 01, "What comes back", 1 to 6): the number and the value of each.
use Rattle.numbers.specs.declared.refusals.Refusal.{Refusal}
use Rattle.numbers.specs.declared.refusals.Refusal.TheVariants.{Cut, Long, Version, Outside, NotAbove, After}
use Rattle.numbers.specs.declared.refusals.Told.{Told}

abbrev pub told_of : Refusal → Told
told_of (Cut length) = record { number = 1; value = length }
told_of (Long at) = record { number = 2; value = at }
told_of Version = record { number = 3; value = 0 }
told_of (Outside at) = record { number = 4; value = at }
told_of (NotAbove at) = record { number = 5; value = at }
told_of (After at) = record { number = 6; value = at }
