-- Two results that a contract allows are equal: of those functions that only look at a plan's marks, `Sweep::has` and `Sweep::some`, of the contract
-- as the prover reads it from the source (`Post`). The passes over uses leave open in which order marks are put.
use mathlib.Core.Path.{◌≡◌}
use mathlib.Core.Bool.{Bool}
use contract.Lifetimes.{Lfts}
use denote.Triple.Clauses.{AtExit}
use borrow.Fn.Kinds.{Dens, ended_of}
use Rattle.store.proofs.Unique.{is_unique}
use Rattle.uses.proofs.sweep.Sweep.has.Reads as has
use Rattle.uses.proofs.sweep.Sweep.has.Kinds as has-kinds
use Rattle.uses.proofs.sweep.Sweep.some.Reads as some
use Rattle.uses.proofs.sweep.Sweep.some.Kinds as some-kinds

pub has_fixes : (κs : Lfts 2) (a : Dens κs has-kinds.ps) (x x' : Bool) (s s' : AtExit (ended_of 2 has-kinds.ps has-kinds.r) κs)
    → has.Post κs a x s → has.Post κs a x' s' → x ≡ x'
has_fixes κs a x x' s s' = is_unique _ x x'

pub some_fixes : (κs : Lfts 2) (a : Dens κs some-kinds.ps) (x x' : Bool) (s s' : AtExit (ended_of 2 some-kinds.ps some-kinds.r) κs)
    → some.Post κs a x s → some.Post κs a x' s' → x ≡ x'
some_fixes κs a x x' s s' = is_unique _ x x'
