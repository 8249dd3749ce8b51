-- The number of a refusal is one of 1 to 6: so it is never 0, which says that a call is done, and never that of a later answer.
use Prim.Native.Nat.{◌≤◌}
use native.Mathlib.Omega.{arith}
use Rattle.numbers.specs.declared.refusals.Refusal.{Refusal}
use Rattle.numbers.specs.declared.refusals.Refusal.TheVariants.{Cut, Long, Version, Outside, NotAbove, After}
use Rattle.numbers.specs.Refusals.{told_of}

pub told_from_1 : (r : Refusal) → 1 ≤ (told_of r).number
told_from_1 (Cut bytes) = omega arith
told_from_1 (Long at) = omega arith
told_from_1 Version = omega arith
told_from_1 (Outside at) = omega arith
told_from_1 (NotAbove at) = omega arith
told_from_1 (After at) = omega arith

pub told_to_6 : (r : Refusal) → (told_of r).number ≤ 6
told_to_6 (Cut bytes) = omega arith
told_to_6 (Long at) = omega arith
told_to_6 Version = omega arith
told_to_6 (Outside at) = omega arith
told_to_6 (NotAbove at) = omega arith
told_to_6 (After at) = omega arith
