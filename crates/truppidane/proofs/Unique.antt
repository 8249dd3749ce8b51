-- Two results of an exported function that its contract allows are equal: the number that it gives, every byte of what it is lent, and the numbers
-- that tell the answer. For the answer is one, and so are its numbers.
use mathlib.Core.Path.{◌≡◌, sym, ap, ◌∙◌}
use mathlib.Core.List.{List}
use Prim.Native.Nat.{ℕ}
use contract.Lifetimes.{Lfts}
use denote.Triple.Clauses.{AtExit}
use borrow.Fn.Kinds.{Dens, ended_of}
use Rattle.check_call.specs.Answer.{Answer}
use Rattle.check_call.specs.Answers.{reply_of}
use Rattle.check_call.proofs.Unique.{checked_same}
use Rattle.claim_check_call.specs.ClaimAnswer.{ClaimAnswer}
use Rattle.claim_write_call.specs.WriteAnswer.{WriteAnswer}
use Rattle.claim_check_call.specs.Answers as claim
use Rattle.claim_write_call.specs.Answers.{write_reply_of}
use Rattle.claim_check_call.proofs.Unique.{claim_checked_same}
use Rattle.claim_write_call.proofs.Unique.{claim_written_same}
use Rattle.truppidane.specs.Told.{check_numbers, write_numbers, claim_numbers}
use Rattle.truppidane.specs.Calls.{CheckTold, WriteTold, ClaimTold}
use Rattle.truppidane.proofs.calls.truppidane_check.Reads as check
use Rattle.truppidane.proofs.calls.truppidane_check.Kinds as check-kinds
use Rattle.truppidane.proofs.calls.truppidane_write_claim.Reads as write
use Rattle.truppidane.proofs.calls.truppidane_write_claim.Kinds as write-kinds
use Rattle.truppidane.proofs.calls.truppidane_check_claim.Reads as check-claim
use Rattle.truppidane.proofs.calls.truppidane_check_claim.Kinds as check-claim-kinds

-- what is told of equal answers is equal
told_same : {A B : Type 0} (f : A → B) {a b : A} {x y : B} → a ≡ b → x ≡ f a → y ≡ f b → x ≡ y
told_same f e p q = p ∙ ap f e ∙ sym q

pub check_told_same : {s : List ℕ} {budget : ℕ} {m : List ℕ} {r r' : ℕ} {m₁ m₂ told told' : List ℕ}
    → CheckTold s budget m r m₁ told → CheckTold s budget m r' m₂ told' → (r ≡ r') × (m₁ ≡ m₂) × (told ≡ told')
check_told_same x y =
    let (e, bytes) = checked_same x.checked y.checked in
    (told_same (λ (a : Answer). (reply_of a).number) e x.number y.number, bytes, told_same check_numbers e x.numbers y.numbers)

pub write_told_same : {s : List ℕ} {budget : ℕ} {m d : List ℕ} {r r' : ℕ} {m₁ m₂ d₁ d₂ told told' : List ℕ}
    → WriteTold s budget m d r m₁ d₁ told → WriteTold s budget m d r' m₂ d₂ told'
    → (r ≡ r') × (m₁ ≡ m₂) × (d₁ ≡ d₂) × (told ≡ told')
write_told_same x y =
    let (e, bytes, space) = claim_written_same x.written y.written in (
      told_same (λ (a : WriteAnswer). (write_reply_of a).number) e x.number y.number,
      bytes,
      space,
      told_same write_numbers e x.numbers y.numbers,
    )

pub claim_told_same : {s c m : List ℕ} {r r' : ℕ} {m₁ m₂ told told' : List ℕ}
    → ClaimTold s c m r m₁ told → ClaimTold s c m r' m₂ told' → (r ≡ r') × (m₁ ≡ m₂) × (told ≡ told')
claim_told_same x y =
    let (e, bytes) = claim_checked_same x.checked y.checked in
    (told_same (λ (a : ClaimAnswer). (claim.claim_reply_of a).number) e x.number y.number, bytes, told_same claim_numbers e x.numbers y.numbers)

-- ---- the contracts as the prover reads them from the source

pub check_fixes : (κs : Lfts 3) (a : Dens κs check-kinds.ps) (x x' : ℕ) (s s' : AtExit (ended_of 3 check-kinds.ps check-kinds.r) κs)
    → check.Post κs a x s → check.Post κs a x' s'
    → (x ≡ x') × (s.1.0.now ≡ s'.1.0.now) × (s.1.1.1.0.now ≡ s'.1.1.1.0.now)
check_fixes κs a x x' s s' = check_told_same

pub write_claim_fixes : (κs : Lfts 4) (a : Dens κs write-kinds.ps) (x x' : ℕ) (s s' : AtExit (ended_of 4 write-kinds.ps write-kinds.r) κs)
    → write.Post κs a x s → write.Post κs a x' s'
    → (x ≡ x') × (s.1.0.now ≡ s'.1.0.now) × (s.1.1.1.0.now ≡ s'.1.1.1.0.now) × (s.1.1.1.1.0.now ≡ s'.1.1.1.1.0.now)
write_claim_fixes κs a x x' s s' = write_told_same

pub check_claim_fixes : (κs : Lfts 4) (a : Dens κs check-claim-kinds.ps) (x x' : ℕ)
    (s s' : AtExit (ended_of 4 check-claim-kinds.ps check-claim-kinds.r) κs)
    → check-claim.Post κs a x s → check-claim.Post κs a x' s'
    → (x ≡ x') × (s.1.1.0.now ≡ s'.1.1.0.now) × (s.1.1.1.0.now ≡ s'.1.1.1.0.now)
check_claim_fixes κs a x x' s s' = claim_told_same
