-- Two results that a contract allows are equal, the answer and every byte lent: for each public function, of its contract as the prover reads it
-- from the source (`Post`). Both are equations.
use mathlib.Core.Path.{◌≡◌}
use mathlib.Core.List.{List}
use Prim.Native.Nat.{ℕ}
use contract.Lifetimes.{Lfts}
use denote.Triple.Clauses.{AtExit}
use borrow.Fn.Kinds.{Dens, ended_of}
use Rattle.numbers.proofs.Unique.{same, Fixes}
use Rattle.claim_of_marks.specs.Writing.{ClaimPut}
use Rattle.claim_of_marks.proofs.marked.MarkedFacts.claim_width.Reads as claim-width
use Rattle.claim_of_marks.proofs.marked.MarkedFacts.claim_width.Kinds as claim-width-kinds
use Rattle.claim_of_marks.proofs.marked.MarkedFacts.put_claim.Reads as put-claim
use Rattle.claim_of_marks.proofs.marked.MarkedFacts.put_claim.Kinds as put-claim-kinds

pub claim_width_fixes : Fixes claim-width-kinds.ps claim-width-kinds.r claim-width.Post
claim_width_fixes κs a x x' s s' = same

pub claim_put_unique : {ps before after after' : List ℕ} {r r' : ℕ} → ClaimPut ps before after r → ClaimPut ps before after' r'
    → (r ≡ r') × (after ≡ after')
claim_put_unique p q = (same p.count q.count, same p.bytes q.bytes)

pub put_claim_fixes : (κs : Lfts 3) (a : Dens κs put-claim-kinds.ps) (x x' : ℕ)
    (s s' : AtExit (ended_of 3 put-claim-kinds.ps put-claim-kinds.r) κs)
    → put-claim.Post κs a x s → put-claim.Post κs a x' s' → (x ≡ x') × (s.1.0.now ≡ s'.1.0.now)
put_claim_fixes κs a x x' s s' = claim_put_unique
