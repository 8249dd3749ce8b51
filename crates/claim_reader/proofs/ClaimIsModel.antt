-- A memory in which a claim of a table's facts is marked holds the claimed facts; and the claim that is written from a memory that holds a
-- set of facts claims these facts, as many as there are.
use mathlib.Core.Path.{◌≡◌}
use mathlib.Core.List.{List}
use Prim.Native.Nat.{ℕ}
use native.Mathlib.Omega.{arith}
use lib.ListN.{length, replicate, length-replicate, get_or-replicate}
use Rattle.numbers.specs.Reading.{got}
use Rattle.files.specs.Table.{Table, Sound, W}
use Rattle.model.specs.Rules.{Fact}
use Rattle.model.specs.Memory.{Holds, CountOf}
use Rattle.model.specs.Claims.{Claimed}
use Rattle.model.proofs.Claims.{claimed_held}
use Rattle.model.proofs.Memory.{says_one, says_yes, says_bit, says_cast, total_counts}
use Rattle.claim_reader.specs.ClaimFile.{AscendingBelow, claim_at}
use Rattle.claim_reader.specs.ClaimAnswers.{positions_of}
use Rattle.claim_reader.specs.Marks.{positions_in, Marks}
use Rattle.claim_reader.specs.Stages.{marked_all}
use Rattle.claim_reader.proofs.ClaimMarks.{marks_made, marks_of}
use Rattle.claim_reader.proofs.MarkedPositions.{positions_total}
use Rattle.claim_reader.proofs.RoundTrip.{claim_ascending}
use Rattle.claim_reader.proofs.PositionsOfMarks.{ascending_below, positions_of_marks, positions_back}

module _ {T : Table} (sound : Sound T) {w : ℕ} (facts : W T ≡ w) where
  marks_held : {ps mem : List ℕ} → AscendingBelow w ps → Marks w ps mem → Holds T (Claimed T ps) mem
  marks_held {ps} {mem} a m =
      claimed_held sound ps (λ p i. omega (arith, ascending_below a p i)) mem (omega (arith, m.long)) (λ p l. m.says p (omega arith))

  -- what `mark_claim` leaves of a claim that `read_claim` accepts
  pub claim_held : (s : List ℕ) {ps mem : List ℕ} {n : ℕ} → claim_at w s ≡ got ps n → Marks w (positions_of (claim_at w s)) mem
      → Holds T (Claimed T ps) mem
  claim_held s {ps} {n = n} e marks = marks_held (claim_ascending w s ps n e) (marks_of s e marks)

  -- what `put_claim` writes
  pub written_held : {S : Fact → Type 0} {mem : List ℕ} → Holds T S mem → Holds T (Claimed T (positions_in w mem)) mem
  written_held {mem = mem} h =
      let a = positions_of_marks w mem in
      claimed_held sound (positions_in w mem) (λ p i. omega (arith, a.marked p i)) mem h.long
      (λ p l. let s = h.says p l in says_cast (λ x. a.listed p (omega arith) (says_yes s x)) (λ i. says_one s (a.marked p i).1) s)

  -- its count is the number of facts that the memory holds
  pub written_counts : {S : Fact → Type 0} (mem : List ℕ) → Holds T S mem → CountOf T S (length (positions_in w mem))
  written_counts mem h =
      let t = positions_total mem w (λ p l. says_bit (h.says p (omega arith))) in
      rw (t, ← facts) (total_counts h)

  -- and the count of a claim that is read is the number of facts that it claims
  pub claim_counts : (s ps : List ℕ) (n : ℕ) → claim_at w s ≡ got ps n → CountOf T (Claimed T ps) (length ps)
  claim_counts s ps n e =
      let a = claim_ascending w s ps n e in
      let none : List ℕ = replicate w 0 in
      let long : length none ≡ w = length-replicate w 0 in
      let m = marks_made ps none a long (λ p l. get_or-replicate w p 0 0 (omega arith)) in
      rw (positions_back a m) at (written_counts (marked_all none ps) (marks_held a m))
