-- Two results of claim writing that its contract allows, for one file, budget, memory and space, are equal: the answer with its verdict, witness
-- and number of bytes, and every byte of the memory and of the space. The check's answer is one; so either both pass it on, or both write the one
-- claim of the facts, which has room in the space or not. So are two numbers, origins and values of one answer.
use mathlib.Core.Path.{◌≡◌, refl, sym, ap, ◌∙◌}
use mathlib.Core.List.{List}
use Prim.Native.Nat.{ℕ, ◌≤◌, ◌<◌}
use native.Mathlib.Omega.{arith}
use lib.ListN.{length}
use lib.Seq.{sets}
use contract.Lifetimes.{Lfts}
use denote.Triple.Clauses.{AtExit}
use borrow.Fn.Kinds.{Dens, ended_of}
use Rattle.numbers.specs.declared.refusals.Refusal.{Refusal}
use Rattle.numbers.proofs.Unique.{same, Fixes}
use Rattle.files.specs.Table.{Table, W}
use Rattle.store.specs.Clearing.{Cleared}
use Rattle.store.proofs.Unique.{cleared_unique}
use Rattle.verdict.specs.declared.search.Verdict.{Verdict}
use Rattle.check_call.specs.Answer.{Answer}
use Rattle.check_call.specs.Answer as check
use Rattle.check_call.specs.Checking.{Checked}
use Rattle.check_call.proofs.Unique.{checked_answer, checked_same}
use Rattle.check_call.proofs.Exactly.{check_done}
use Rattle.claim_write_call.specs.WriteAnswer.{WriteAnswer, Written, Refused, Short, Over, NoSpace}
use Rattle.claim_write_call.specs.ClaimWriting.{ClaimOf, ClaimWritten, refused, short, over, no_space, written}
use Rattle.claim_write_call.proofs.PositionsOfFacts.{claim_table, claim_bytes_lem}
use Rattle.claim_write_call.proofs.write.write_claim.Reads as write-claim
use Rattle.claim_write_call.proofs.write.write_claim.Kinds as write-claim-kinds
use Rattle.claim_write_call.proofs.answer.write_reply_of.Reads as write-reply-of
use Rattle.claim_write_call.proofs.answer.write_reply_of.Kinds as write-reply-of-kinds
use Rattle.claim_write_call.proofs.answer.WriteRefusalFromCheckRefusal.from.Reads as refusal-from
use Rattle.claim_write_call.proofs.answer.WriteRefusalFromCheckRefusal.from.Kinds as refusal-from-kinds
use Rattle.claim_write_call.proofs.answer.ReplyFromWriteRefusal.from.Reads as reply-from
use Rattle.claim_write_call.proofs.answer.ReplyFromWriteRefusal.from.Kinds as reply-from-kinds

cleared_same : {w w' : ℕ} {m m₁ m₂ : List ℕ} → w ≡ w' → Cleared w m m₁ → Cleared w' m m₂ → m₁ ≡ m₂
cleared_same e c c' = cleared_unique (rw e at c) c'

-- ---- the check, and what follows it

-- the cases of ClaimWritten by the check's answer: after the check of s, lent m, has left m₁; d is the space
data After (s m d m₁ : List ℕ) : Answer → WriteAnswer → List ℕ → List ℕ → Type 0 where
  refused' : {x : Refusal} → After s m d m₁ (check.Refused x) (Refused x) m₁ d
  short' : {w : ℕ} → After s m d m₁ (check.Short w) (Short w) m₁ d
  over' : {b : ℕ} → After s m d m₁ (check.Over b) (Over b) m₁ d
  no_space' : {count : ℕ} {verdict : Verdict} {m' : List ℕ} {T : Table} {bytes : List ℕ} → ClaimOf s T bytes → length d < length bytes
      → Cleared (W T) m m' → After s m d m₁ (check.Done count verdict) (NoSpace (length bytes)) m' d
  written' : {count : ℕ} {verdict : Verdict} {T : Table} {bytes : List ℕ} → ClaimOf s T bytes → length bytes ≤ length d
      → After s m d m₁ (check.Done count verdict) (Written count verdict (length bytes)) m₁ (sets d 0 bytes)

record Through (s : List ℕ) (budget : ℕ) (m d : List ℕ) (r : WriteAnswer) (m' d' : List ℕ) : Type 0 where
  pub answer : Answer
  pub memory : List ℕ
  pub checked : Checked s budget m answer memory
  pub after : After s m d memory answer r m' d'

through : {s : List ℕ} {budget : ℕ} {m d : List ℕ} {r : WriteAnswer} {m' d' : List ℕ}
    → ClaimWritten s budget m d r m' d' → Through s budget m d r m' d'
through (refused c) = record { answer = _; memory = _; checked = c; after = refused' }
through (short c) = record { answer = _; memory = _; checked = c; after = short' }
through (over c) = record { answer = _; memory = _; checked = c; after = over' }
through (no_space c of l z) = record { answer = _; memory = _; checked = c; after = no_space' of l z }
through (written c of l) = record { answer = _; memory = _; checked = c; after = written' of l }

-- ---- the two results

abbrev Same : WriteAnswer → WriteAnswer → List ℕ → List ℕ → List ℕ → List ℕ → Type 0
Same a b m m' d d' = (a ≡ b) × (m ≡ m') × (d ≡ d')

-- after a finished check there is one claim, of one table
module _ {s : List ℕ} {budget : ℕ} {m : List ℕ} {count : ℕ} {verdict : Verdict} {m₁ : List ℕ}
    (c : Checked s budget m (check.Done count verdict) m₁)
    {T T' : Table} {bytes bytes' : List ℕ} (of : ClaimOf s T bytes) (of' : ClaimOf s T' bytes') where
  bytes_same : bytes ≡ bytes'
  bytes_same = claim_bytes_lem (check_done c) of ∙ sym (claim_bytes_lem (check_done c) of')

  w_same : W T ≡ W T'
  w_same = ap W (claim_table (check_done c) of ∙ sym (claim_table (check_done c) of'))

module _ {s : List ℕ} {budget : ℕ} {m n d : List ℕ} where
  -- the answer and the space, whatever the memory held
  after_alike : {a : Answer} {k m₁ n₁ m' n' d' d'' : List ℕ} {r r' : WriteAnswer} → Checked s budget k a m₁
      → After s m d m₁ a r m' d' → After s n d n₁ a r' n' d'' → (r ≡ r') × (d' ≡ d'')
  after_alike c refused' refused' = (refl, refl)
  after_alike c short' short' = (refl, refl)
  after_alike c over' over' = (refl, refl)
  after_alike c (no_space' of l z) (no_space' of' l' z') = (λ i. NoSpace (length (bytes_same c of of' i)), refl)
  after_alike c (no_space' of l z) (written' of' l') = let e = ap length (bytes_same c of of') in absurd (omega arith)
  after_alike c (written' of l) (no_space' of' l' z') = let e = ap length (bytes_same c of of') in absurd (omega arith)
  after_alike c (written' {count} {verdict} of l) (written' of' l') =
      let e = bytes_same c of of' in
      (λ i. Written count verdict (length (e i)), λ i. sets d 0 (e i))

  pub claim_written_answer : {r r' : WriteAnswer} {m' n' d' d'' : List ℕ} → length m ≡ length n
      → ClaimWritten s budget m d r m' d' → ClaimWritten s budget n d r' n' d'' → (r ≡ r') × (d' ≡ d'')
  claim_written_answer long w w' =
      let t = through w in
      let t' = through w' in
      after_alike t.checked t.after (rw (checked_answer (sym long) t'.checked t.checked) at t'.after)

module _ {s : List ℕ} {budget : ℕ} {m d : List ℕ} where
  after_memory : {a : Answer} {m₁ m' m'' d' d'' : List ℕ} {r r' : WriteAnswer} → Checked s budget m a m₁
      → After s m d m₁ a r m' d' → After s m d m₁ a r' m'' d'' → m' ≡ m''
  after_memory c refused' refused' = refl
  after_memory c short' short' = refl
  after_memory c over' over' = refl
  after_memory c (no_space' of l z) (no_space' of' l' z') = cleared_same (w_same c of of') z z'
  after_memory c (no_space' of l z) (written' of' l') = let e = ap length (bytes_same c of of') in absurd (omega arith)
  after_memory c (written' of l) (no_space' of' l' z') = let e = ap length (bytes_same c of of') in absurd (omega arith)
  after_memory c (written' of l) (written' of' l') = refl

  pub claim_written_same : {r r' : WriteAnswer} {m' m'' d' d'' : List ℕ}
      → ClaimWritten s budget m d r m' d' → ClaimWritten s budget m d r' m'' d'' → Same r r' m' m'' d' d''
  claim_written_same w w' =
      let t = through w in
      let t' = through w' in
      let (a, k) = checked_same t'.checked t.checked in
      let after = rw (a, k) at t'.after in
      let (r, d) = after_alike t.checked t.after after in
      (r, after_memory t.checked t.after after, d)

-- ---- the contracts as the prover reads them from the source

pub write_claim_fixes : (κs : Lfts 3) (a : Dens κs write-claim-kinds.ps) (x x' : WriteAnswer)
    (s s' : AtExit (ended_of 3 write-claim-kinds.ps write-claim-kinds.r) κs)
    → write-claim.Post κs a x s → write-claim.Post κs a x' s'
    → Same x x' s.1.0.now s'.1.0.now s.1.1.1.0.now s'.1.1.1.0.now
write_claim_fixes κs a x x' s s' = claim_written_same

pub write_reply_of_fixes : Fixes write-reply-of-kinds.ps write-reply-of-kinds.r write-reply-of.Post
write_reply_of_fixes κs a x x' s s' = same

pub write_refusal_fixes : Fixes refusal-from-kinds.ps refusal-from-kinds.r refusal-from.Post
write_refusal_fixes κs a x x' s s' = same

pub reply_of_refusal_fixes : Fixes reply-from-kinds.ps reply-from-kinds.r reply-from.Post
reply_of_refusal_fixes κs a x x' s s' = same
