-- Two results that a contract allows are equal: for each public function, of its contract as the prover reads it from the source (`Post`).
-- Every contract here is an equation, for the answer or for the memory, so both results equal the same.
use mathlib.Core.Path.{◌≡◌}
use contract.Lifetimes.{Lfts}
use denote.Triple.Clauses.{AtExit}
use borrow.Fn.Kinds.{Dens, res_t, ended_of}
use Rattle.numbers.proofs.Unique.{same, Fixes}
use Rattle.lists.proofs.list.find_at.Reads as find-at
use Rattle.lists.proofs.list.find_at.Kinds as find-at-kinds
use Rattle.lists.proofs.list.keep_at.Reads as keep-at
use Rattle.lists.proofs.list.keep_at.Kinds as keep-at-kinds
use Rattle.lists.proofs.list.find_list.Reads as find-list
use Rattle.lists.proofs.list.find_list.Kinds as find-list-kinds
use Rattle.lists.proofs.list.keep_list.Reads as keep-list
use Rattle.lists.proofs.list.keep_list.Kinds as keep-list-kinds

pub find_at_fixes : Fixes find-at-kinds.ps find-at-kinds.r find-at.Post
find_at_fixes κs a x x' s s' = same

pub find_list_fixes : Fixes find-list-kinds.ps find-list-kinds.r find-list.Post
find_list_fixes κs a x x' s s' = same

-- every byte of the memory
pub keep_at_fixes : (κs : Lfts 2) (a : Dens κs keep-at-kinds.ps) (x x' : (res_t keep-at-kinds.r κs).Denot)
    (s s' : AtExit (ended_of 2 keep-at-kinds.ps keep-at-kinds.r) κs)
    → keep-at.Post κs a x s → keep-at.Post κs a x' s' → s.1.1.1.1.0.now ≡ s'.1.1.1.1.0.now
keep_at_fixes κs a x x' s s' = same

pub keep_list_fixes : (κs : Lfts 2) (a : Dens κs keep-list-kinds.ps) (x x' : (res_t keep-list-kinds.r κs).Denot)
    (s s' : AtExit (ended_of 2 keep-list-kinds.ps keep-list-kinds.r) κs)
    → keep-list.Post κs a x s → keep-list.Post κs a x' s' → s.1.1.1.1.0.now ≡ s'.1.1.1.1.0.now
keep_list_fixes κs a x x' s s' = same
