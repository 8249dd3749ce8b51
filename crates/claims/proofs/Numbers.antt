-- What we owe, by the numbers that callers get. An answer's number says what it means, and 0 says "done", "accepted" or "written" and nothing else;
-- so what the demands say of these answers holds where the number is 0. `Demands` beside this file has the demands of the answers themselves, and
-- truppidane/proofs/Exported.antt says the same of the exported calls. s, c, m, d and their primed sisters are as in `Demands`.
use mathlib.Core.Path.{◌≡◌, refl, sym, ap, subst, ◌∙◌}
use mathlib.Core.List.{List, [], ◌∷◌, map}
use Prim.Native.Nat.{ℕ, zero, suc, ◌≤◌}
use native.Mathlib.Omega.{arith}
use lib.ListN.{get_or, take}
use Rattle.std.specs.Prelude.{Ok}
use Rattle.numbers.specs.declared.refusals.Refusal.{Refusal}
use Rattle.numbers.specs.declared.refusals.Refusal.TheVariants as refusal
use Rattle.numbers.specs.Refusals.{told_of}
use Rattle.numbers.proofs.RefusalLaws.{told_from_1}
use Rattle.verdict.specs.declared.search.Witness.{Witness}
use Rattle.verdict.specs.declared.search.Verdict.{Verdict}
use Rattle.verdict.specs.declared.search.Verdict.TheVariants.{Safe, Possible}
use Rattle.check_call.specs.Answer.{Answer}
use Rattle.check_call.specs.Answer as check
use Rattle.check_call.specs.Answers.{reply_of}
use Rattle.check_call.specs.Checking.{Checked, CheckDone}
use Rattle.check_call.proofs.Exactly.{check_done}
use Rattle.claim_check_call.specs.ClaimAnswer.{ClaimAnswer}
use Rattle.claim_check_call.specs.ClaimAnswer as claim
use Rattle.claim_check_call.specs.Answers as claim-answers
use Rattle.claim_check_call.specs.ClaimChecking.{ClaimChecked, table_read}
use Rattle.claim_write_call.specs.WriteAnswer.{WriteAnswer}
use Rattle.claim_write_call.specs.WriteAnswer as write
use Rattle.claim_write_call.specs.Answers.{write_reply_of}
use Rattle.claim_write_call.specs.ClaimWriting.{ClaimWritten}
use Rattle.claim_write_call.specs.ReadBack.{WrittenClaim}
use Rattle.claim_write_call.proofs.WrittenLaws.{written_claim}
use Rattle.claims.specs.Owed.{RunsSafely}
use Rattle.claims.specs.Meanings as meaning
use Rattle.claims.specs.Meanings.{Meaning, number_of, refusal_means, check_means, claim_means, write_means}
use Rattle.claims.proofs.Accepted.{accepted_runs, check_safe_runs, check_possible_never_accepted}

-- ---- a number has one meaning

-- the meanings in the order of document 01's table
abbrev pub meanings : List Meaning
meanings =
    meaning.done ∷ meaning.cut ∷ meaning.long ∷ meaning.version ∷ meaning.outside ∷ meaning.not_above ∷ meaning.bytes_after ∷ meaning.short
    ∷ meaning.over ∷ meaning.lacks_start ∷ meaning.not_closed ∷ meaning.allows_error ∷ meaning.no_space ∷ []

-- the numbers are 0 to 12
pub numbers_in_order : map number_of meanings ≡ 0 ∷ 1 ∷ 2 ∷ 3 ∷ 4 ∷ 5 ∷ 6 ∷ 7 ∷ 8 ∷ 9 ∷ 10 ∷ 11 ∷ 12 ∷ []
numbers_in_order = refl

-- each meaning stands at its number
meaning_at : (a : Meaning) → get_or meanings (number_of a) meaning.done ≡ a
meaning_at meaning.done = refl
meaning_at meaning.cut = refl
meaning_at meaning.long = refl
meaning_at meaning.version = refl
meaning_at meaning.outside = refl
meaning_at meaning.not_above = refl
meaning_at meaning.bytes_after = refl
meaning_at meaning.short = refl
meaning_at meaning.over = refl
meaning_at meaning.lacks_start = refl
meaning_at meaning.not_closed = refl
meaning_at meaning.allows_error = refl
meaning_at meaning.no_space = refl

-- so each number belongs to one of them
pub one_meaning : (a b : Meaning) → number_of a ≡ number_of b → a ≡ b
one_meaning a b e = sym (meaning_at a) ∙ ap (λ (k : ℕ). get_or meanings k meaning.done) e ∙ meaning_at b

refusal_means_lem : (r : Refusal) → (told_of r).number ≡ number_of (refusal_means r)
refusal_means_lem (refusal.Cut bytes) = refl
refusal_means_lem (refusal.Long at) = refl
refusal_means_lem refusal.Version = refl
refusal_means_lem (refusal.Outside at) = refl
refusal_means_lem (refusal.NotAbove at) = refl
refusal_means_lem (refusal.After at) = refl

-- and an answer's number is that of its meaning
pub check_means_lem : (a : Answer) → (reply_of a).number ≡ number_of (check_means a)
check_means_lem (Ok finished) = refl
check_means_lem (check.Refused r) = refusal_means_lem r
check_means_lem (check.Short w) = refl
check_means_lem (check.Over budget) = refl

pub claim_means_lem : (a : ClaimAnswer) → (claim-answers.claim_reply_of a).number ≡ number_of (claim_means a)
claim_means_lem (claim.Accepted count) = refl
claim_means_lem (claim.TableRefused r) = refusal_means_lem r
claim_means_lem (claim.Short w) = refl
claim_means_lem (claim.ClaimRefused r) = refusal_means_lem r
claim_means_lem (claim.LacksStart thread) = refl
claim_means_lem (claim.NotClosed position) = refl
claim_means_lem (claim.AllowsError row) = refl

pub write_means_lem : (a : WriteAnswer) → (write_reply_of a).number ≡ number_of (write_means a)
write_means_lem (Ok written) = refl
write_means_lem (write.Refused r) = refusal_means_lem r
write_means_lem (write.Short w) = refl
write_means_lem (write.Over budget) = refl
write_means_lem (write.NoSpace needed) = refl

-- ---- 0 is "done", "accepted", "written"

no_refusal : {A : Type 0} (r : Refusal) → (told_of r).number ≡ 0 → A
no_refusal r e = absurd (omega (arith, told_from_1 r))

pub check_0 : (a : Answer) → (reply_of a).number ≡ 0 → (count : ℕ) × (verdict : Verdict) × (a ≡ check.Done count verdict)
check_0 (Ok finished) e = (finished.count, finished.verdict, refl)
check_0 (check.Refused r) e = no_refusal r e
check_0 (check.Short w) e = absurd (omega arith)
check_0 (check.Over budget) e = absurd (omega arith)

pub claim_0 : (a : ClaimAnswer) → (claim-answers.claim_reply_of a).number ≡ 0 → (count : ℕ) × (a ≡ claim.Accepted count)
claim_0 (claim.Accepted count) e = (count, refl)
claim_0 (claim.TableRefused r) e = no_refusal r e
claim_0 (claim.Short w) e = absurd (omega arith)
claim_0 (claim.ClaimRefused r) e = no_refusal r e
claim_0 (claim.LacksStart thread) e = absurd (omega arith)
claim_0 (claim.NotClosed position) e = absurd (omega arith)
claim_0 (claim.AllowsError row) e = absurd (omega arith)

pub write_0 : (a : WriteAnswer) → (write_reply_of a).number ≡ 0
    → (count : ℕ) × (verdict : Verdict) × (bytes : ℕ) × (a ≡ write.Written count verdict bytes)
write_0 (Ok written) e = (written.count, written.verdict, written.bytes, refl)
write_0 (write.Refused r) e = no_refusal r e
write_0 (write.Short w) e = absurd (omega arith)
write_0 (write.Over budget) e = absurd (omega arith)
write_0 (write.NoSpace needed) e = absurd (omega arith)

-- and on each of these it is 0
pub done_0 : (count : ℕ) (verdict : Verdict) → (reply_of (check.Done count verdict)).number ≡ 0
done_0 count verdict = refl

pub accepted_0 : (count : ℕ) → (claim-answers.claim_reply_of (claim.Accepted count)).number ≡ 0
accepted_0 count = refl

pub written_0 : (count : ℕ) (verdict : Verdict) (bytes : ℕ) → (write_reply_of (write.Written count verdict bytes)).number ≡ 0
written_0 count verdict bytes = refl

-- ---- demand 2, where the number is 0

-- the value is the count of the facts, and the memory and the verdict are those of the least relations
pub check_0_exactly : {s : List ℕ} {budget : ℕ} {m m' : List ℕ} {a : Answer} → Checked s budget m a m' → (reply_of a).number ≡ 0
    → (verdict : Verdict) × (a ≡ check.Done (reply_of a).value verdict) × CheckDone s budget m (reply_of a).value verdict m'
check_0_exactly {s} {budget} {m} {m'} {a} h e = by (check_0 a e)
  where
    by : (count : ℕ) × (verdict : Verdict) × (a ≡ check.Done count verdict)
        → (verdict : Verdict) × (a ≡ check.Done (reply_of a).value verdict) × CheckDone s budget m (reply_of a).value verdict m'
    by (count, verdict, is) =
        let same : (reply_of a).value ≡ count = ap (λ (b : Answer). (reply_of b).value) is in (
          verdict,
          is ∙ ap (λ (k : ℕ). check.Done k verdict) (sym same),
          rw same (check_done (subst (λ (b : Answer). Checked s budget m b m') is h)),
        )

-- what was written reads back as the table's facts
pub write_0_exactly : {s : List ℕ} {budget : ℕ} {m d m' d' : List ℕ} {a : WriteAnswer} → ClaimWritten s budget m d a m' d'
    → (write_reply_of a).number ≡ 0
    → (verdict : Verdict) × (bytes : ℕ) × WrittenClaim s (write_reply_of a).value verdict bytes (take bytes d')
write_0_exactly {s} {budget} {m} {d} {m'} {d'} {a} h e = by (write_0 a e)
  where
    by : (count : ℕ) × (verdict : Verdict) × (bytes : ℕ) × (a ≡ write.Written count verdict bytes)
        → (verdict : Verdict) × (bytes : ℕ) × WrittenClaim s (write_reply_of a).value verdict bytes (take bytes d')
    by (count, verdict, bytes, is) =
        let same : (write_reply_of a).value ≡ count = ap (λ (b : WriteAnswer). (write_reply_of b).value) is in
        (verdict, bytes, rw same (written_claim (subst (λ (b : WriteAnswer). ClaimWritten s budget m d b m' d') is h)))

-- ---- demand 3, where the number is 0

-- a claim from anyone's tool is answered with 0: no run of the table meets an error state
pub claim_0_safe : {s c m m' : List ℕ} {a : ClaimAnswer} → ClaimChecked s c m a m' → (claim-answers.claim_reply_of a).number ≡ 0 → RunsSafely s
claim_0_safe {s} {c} {m} {m'} {a} h e = by (claim_0 a e)
  where
    read : {count : ℕ} → ClaimChecked s c m (claim.Accepted count) m' → RunsSafely s
    read (table_read q o) = record { table = _; next = _; is = q; safe = λ x. accepted_runs q (table_read q o) }

    by : (count : ℕ) × (a ≡ claim.Accepted count) → RunsSafely s
    by (count, is) = read (subst (λ (b : ClaimAnswer). ClaimChecked s c m b m') is h)

-- the same if the check answers 0 with the verdict safe
pub check_safe : {s : List ℕ} {budget : ℕ} {m m' : List ℕ} {count : ℕ} → Checked s budget m (check.Done count Safe) m' → RunsSafely s
check_safe h = let d = check_done h in record { table = d.table; next = d.next; is = d.is; safe = λ x. check_safe_runs d.is h }

-- where it answers 0 with the verdict possible, no claim for the table is answered with 0
pub possible_never_0 : {s c : List ℕ} {budget : ℕ} {m m' k k' : List ℕ} {count : ℕ} {witness : Witness} {a : ClaimAnswer}
    → Checked s budget k (check.Done count (Possible witness)) k' → ClaimChecked s c m a m' → 1 ≤ (claim-answers.claim_reply_of a).number
possible_never_0 {s} {c} {m = m} {m'} {a = a} d h = by (claim-answers.claim_reply_of a).number refl
  where
    by : (k : ℕ) → (claim-answers.claim_reply_of a).number ≡ k → 1 ≤ k
    by zero e = let (count, is) = claim_0 a e in absurd (check_possible_never_accepted d (subst (λ (b : ClaimAnswer). ClaimChecked s c m b m') is h))
    by (suc k) e = omega arith
