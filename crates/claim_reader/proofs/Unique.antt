-- Two results that a contract allows are equal, the answer and every byte lent: for each public function, of its contract as the prover reads it
-- from the source (`Post`). What `read_claim` answers is an equation; the memory that `mark_claim` leaves is told byte by byte, so two are equal so.
use mathlib.Core.Path.{◌≡◌}
use mathlib.Core.List.{List}
use Prim.Native.Nat.{ℕ}
use native.Mathlib.Omega.{arith}
use lib.Seq.{ext_get_or}
use contract.Lifetimes.{Lfts}
use denote.Triple.Clauses.{AtExit}
use borrow.Fn.Kinds.{Dens, res_t, ended_of}
use Rattle.numbers.proofs.Unique.{same, Fixes}
use Rattle.model.proofs.Unique.{says_same}
use Rattle.claim_reader.specs.Marks.{Marks}
use Rattle.claim_reader.proofs.reading.read_claim.Reads as read-claim
use Rattle.claim_reader.proofs.reading.read_claim.Kinds as read-claim-kinds
use Rattle.claim_reader.proofs.reading.mark_claim.Reads as mark-claim
use Rattle.claim_reader.proofs.reading.mark_claim.Kinds as mark-claim-kinds

pub read_claim_fixes : Fixes read-claim-kinds.ps read-claim-kinds.r read-claim.Post
read_claim_fixes κs a x x' s s' = same

-- ---- a memory that marks positions

pub marks_unique : {w : ℕ} {ps mem mem' : List ℕ} → Marks w ps mem → Marks w ps mem' → mem ≡ mem'
marks_unique {mem = mem} {mem'} m m' =
    ext_get_or 0 mem mem' (same m.long m'.long)
    (λ p l. says_same (m.says p (omega (arith, m.long))) (m'.says p (omega (arith, m.long))))

pub mark_claim_fixes : (κs : Lfts 2) (a : Dens κs mark-claim-kinds.ps) (x x' : (res_t mark-claim-kinds.r κs).Denot)
    (s s' : AtExit (ended_of 2 mark-claim-kinds.ps mark-claim-kinds.r) κs)
    → mark-claim.Post κs a x s → mark-claim.Post κs a x' s' → s.1.1.0.now ≡ s'.1.1.0.now
mark_claim_fixes κs a x x' s s' = marks_unique
