-- Two results of the claim check that its contract allows, for one table's file, one claim's file and one memory, are equal: the answer and every
-- byte of the memory. What the memory held before decides no answer; and where table and claim are read, none of the first W bytes. So are two
-- numbers, origins and values of one answer.
use mathlib.Core.Path.{◌≡◌, refl, sym, ap, subst, ◌∙◌}
use mathlib.Core.List.{List}
use Prim.Native.Nat.{ℕ, ◌≤◌}
use native.Mathlib.Omega.{arith}
use lib.ListN.{length, take, drop}
use contract.Lifetimes.{Lfts}
use denote.Triple.Clauses.{AtExit}
use borrow.Fn.Kinds.{Dens, ended_of}
use Rattle.numbers.specs.declared.refusals.Refusal.{Refusal}
use Rattle.numbers.specs.Reading.{Out, got, bad}
use Rattle.numbers.proofs.ReadingLaws.{never}
use Rattle.numbers.proofs.Unique.{Fixes}
use Rattle.numbers.proofs.Unique as numbers
use Rattle.files.specs.Table.{Table, W}
use Rattle.files.specs.File.{table_at}
use Rattle.model.specs.Claims.{Finding, accepted, lacks_start, not_closed, allows_error}
use Rattle.model.proofs.Unique.{holds_same, finding_same}
use Rattle.check_call.proofs.Unique.{Alike, unchanged, changed, alike_same, bad_refusal}
use Rattle.claim_reader.specs.ClaimFile.{claim_at}
use Rattle.claim_check_call.specs.ClaimAnswer.{ClaimAnswer, TableRefused, ClaimRefused}
use Rattle.claim_check_call.specs.Answers.{answer_of}
use Rattle.claim_check_call.specs.ClaimChecking.{
  OfPositions,
  AgainstTable,
  short,
  claim_refused,
  claim_read,
  ClaimChecked,
  table_refused,
  table_read,
}
use Rattle.claim_check_call.proofs.ClaimCases.{table_was_read, claim_was_read, Left, worked}
use Rattle.claim_check_call.proofs.answer.claim_reply_of.Reads as claim-reply-of
use Rattle.claim_check_call.proofs.answer.claim_reply_of.Kinds as claim-reply-of-kinds
use Rattle.claim_check_call.proofs.answer.ReplyFromClaimRefusal.from.Reads as reply-from
use Rattle.claim_check_call.proofs.answer.ReplyFromClaimRefusal.from.Kinds as reply-from-kinds
use Rattle.claim_check_call.proofs.check.check_claim.Reads as check-claim
use Rattle.claim_check_call.proofs.check.check_claim.Kinds as check-claim-kinds

-- ---- a claim that was read, for memories m and n

module _ (T : Table) (ps m₁ n₁ : List ℕ) where
  left_same : (x : Finding) → Left T ps x m₁ → Left T ps x n₁ → take (W T) m₁ ≡ take (W T) n₁
  left_same accepted h h' = holds_same h h'
  left_same (lacks_start t) z z' = z ∙ sym z'
  left_same (not_closed p) z z' = z ∙ sym z'
  left_same (allows_error row) z z' = z ∙ sym z'

  positions_same : {m n : List ℕ} {a b : ClaimAnswer} → OfPositions T ps m a m₁ → OfPositions T ps n b n₁
      → (a ≡ b) × (take (W T) m₁ ≡ take (W T) n₁)
  positions_same o p =
      let x = worked o in
      let y = worked p in
      let e = finding_same x.found y.found in
      (x.answer ∙ ap (answer_of (length ps)) e ∙ sym y.answer, left_same y.finding (subst (λ z. Left T ps z m₁) e x.bytes) y.bytes)

-- ---- a table that was read, for memories of one length

bad_claim : {x y : Refusal} → ◌≡◌ {A = Out (List ℕ)} (bad x) (bad y) → x ≡ y
bad_claim e = cc

table_alike : {T : Table} {c m n m₁ n₁ : List ℕ} {a b : ClaimAnswer} → length m ≡ length n → AgainstTable T c m a m₁ → AgainstTable T c n b n₁
    → (a ≡ b) × Alike (W T) m n m₁ n₁
table_alike long (short l) (short l') = (refl, unchanged)
table_alike long (short l) (claim_refused h e) = absurd (omega arith)
table_alike long (short l) (claim_read h e o) = absurd (omega arith)
table_alike long (claim_refused h e) (short l) = absurd (omega arith)
table_alike long (claim_refused h e) (claim_refused h' e') = (ap ClaimRefused (bad_claim (sym e ∙ e')), unchanged)
table_alike long (claim_refused h e) (claim_read h' e' o) = let q = sym e ∙ e' in never (cc)
table_alike long (claim_read h e o) (short l) = absurd (omega arith)
table_alike long (claim_read h e o) (claim_refused h' e') = let q = sym e ∙ e' in never (cc)
table_alike {T} {m₁ = m₁} {n₁} long (claim_read {ps} h e o) (claim_read h' e' o') =
    let p = claim_was_read h' e (claim_read h' e' o') in
    let (q, bytes) = positions_same T ps m₁ n₁ o p in
    (q, changed bytes (worked o).rest (worked p).rest)

-- ---- the claim check, for memories of one length

pub claim_answer_same : {s c m n m₁ n₁ : List ℕ} {a b : ClaimAnswer} → length m ≡ length n → ClaimChecked s c m a m₁ → ClaimChecked s c n b n₁ → a ≡ b
claim_answer_same long (table_refused e) (table_refused e') = ap TableRefused (bad_refusal (sym e ∙ e'))
claim_answer_same long (table_refused e) (table_read e' o) = let q = sym e ∙ e' in never (cc)
claim_answer_same long (table_read e o) r = (table_alike long o (table_was_read e r)).0

-- where table and claim are read and W bytes are lent, the first W bytes come out the same
pub claim_bytes_same : {s c m n m₁ n₁ ps : List ℕ} {a b : ClaimAnswer} {T : Table} {k j : ℕ} → table_at s ≡ got T k → claim_at (W T) c ≡ got ps j
    → W T ≤ length m → W T ≤ length n → ClaimChecked s c m a m₁ → ClaimChecked s c n b n₁ → take (W T) m₁ ≡ take (W T) n₁
claim_bytes_same {m₁ = m₁} {n₁} {ps} {T = T} e q h h' r r' =
    (positions_same T ps m₁ n₁ (claim_was_read h q (table_was_read e r)) (claim_was_read h' q (table_was_read e r'))).1

-- the bytes from W on are as they were
pub claim_rest_kept : {s c m m₁ : List ℕ} {a : ClaimAnswer} {T : Table} {k : ℕ} → table_at s ≡ got T k → ClaimChecked s c m a m₁
    → drop (W T) m₁ ≡ drop (W T) m
claim_rest_kept e r = kept (table_was_read e r)
  where
    kept : {T : Table} {c m m₁ : List ℕ} {a : ClaimAnswer} → AgainstTable T c m a m₁ → drop (W T) m₁ ≡ drop (W T) m
    kept (short l) = refl
    kept (claim_refused h q) = refl
    kept (claim_read h q o) = (worked o).rest

-- ---- the claim check, for one memory

-- the two results
abbrev Same : ClaimAnswer → ClaimAnswer → List ℕ → List ℕ → Type 0
Same a b m m' = (a ≡ b) × (m ≡ m')

pub claim_checked_same : {s c m m₁ m₂ : List ℕ} {a b : ClaimAnswer} → ClaimChecked s c m a m₁ → ClaimChecked s c m b m₂ → Same a b m₁ m₂
claim_checked_same (table_refused e) (table_refused e') = (ap TableRefused (bad_refusal (sym e ∙ e')), refl)
claim_checked_same (table_refused e) (table_read e' o) = let q = sym e ∙ e' in never (cc)
claim_checked_same (table_read e o) r = let (q, bytes) = table_alike refl o (table_was_read e r) in (q, alike_same bytes)

-- ---- the contracts as the prover reads them from the source

pub check_claim_fixes : (κs : Lfts 3) (a : Dens κs check-claim-kinds.ps) (x x' : ClaimAnswer)
    (s s' : AtExit (ended_of 3 check-claim-kinds.ps check-claim-kinds.r) κs)
    → check-claim.Post κs a x s → check-claim.Post κs a x' s' → Same x x' s.1.1.0.now s'.1.1.0.now
check_claim_fixes κs a x x' s s' = claim_checked_same

pub claim_reply_of_fixes : Fixes claim-reply-of-kinds.ps claim-reply-of-kinds.r claim-reply-of.Post
claim_reply_of_fixes κs a x x' s s' = numbers.same

pub reply_of_refusal_fixes : Fixes reply-from-kinds.ps reply-from-kinds.r reply-from.Post
reply_of_refusal_fixes κs a x x' s s' = numbers.same
