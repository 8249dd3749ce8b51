-- What we owe, of the exported calls: by the number that each returns and the numbers that it tells. `claims/proofs/Demands.antt` has the demands of
-- the calls below, and `claims/proofs/Numbers.antt` what a number says of their answers.
-- r is what a call returns; s is a table's file and c a claim's; m is the working memory before a call and m' after it, and d and d' the space.
--     returned-first                        r is the first of the numbers told
--     check_leaves, …                       demand 1: what each r leaves of the memory and of the space
--     check_0_exactly                       demand 2: where r is 0, the value and the verdict told are those of the least relations
--     claim_0_safe, check_0_safe            demand 3: 0, and 0 with verdict 1, mean that no run meets an error state
--     possible_never_0                      and 0 with verdict 2 that no claim is answered with 0
use mathlib.Core.Path.{◌≡◌, sym, ap, subst, subst⁻¹, ◌∙◌}
use mathlib.Core.List.{List}
use Prim.Native.Nat.{ℕ, ◌≤◌}
use native.Mathlib.Omega.{arith}
use lib.ListN.{get_or}
use Rattle.verdict.specs.declared.search.Verdict.{Verdict}
use Rattle.verdict.specs.declared.search.Verdict.TheVariants.{Safe, Possible}
use Rattle.check_call.specs.Answer.{Answer, Done}
use Rattle.check_call.specs.Answers.{reply_of}
use Rattle.check_call.specs.Checking.{Checked, CheckDone}
use Rattle.claims.specs.Owed.{Changes, RunsSafely}
use Rattle.claims.proofs.Changes.{check_changes, claim_changes, write_changes}
use Rattle.claims.proofs.Numbers as numbers
use Rattle.truppidane.specs.Told.{check_numbers, of_verdict}
use Rattle.truppidane.specs.Calls.{CheckTold, WriteTold, ClaimTold}
use Rattle.truppidane.proofs.FirstNumber.{first_of}

-- where the numbers told have the value and the verdict
abbrev value_at : ℕ
value_at = 2

abbrev verdict_at : ℕ
verdict_at = 3

-- ---- demand 1

module _ {s : List ℕ} {budget : ℕ} {m : List ℕ} {r : ℕ} {m' told : List ℕ} where
  pub check_returned_first : CheckTold s budget m r m' told → get_or told 0 0 ≡ r
  check_returned_first h = first_of h.numbers ∙ sym h.number

  pub check_leaves : CheckTold s budget m r m' told → Changes s m m' r
  check_leaves h = subst⁻¹ (Changes s m m') h.number (check_changes h.checked)

module _ {s c m : List ℕ} {r : ℕ} {m' told : List ℕ} where
  pub claim_returned_first : ClaimTold s c m r m' told → get_or told 0 0 ≡ r
  claim_returned_first h = first_of h.numbers ∙ sym h.number

  pub claim_check_leaves : ClaimTold s c m r m' told → Changes s m m' r
  claim_check_leaves h = subst⁻¹ (Changes s m m') h.number (claim_changes h.checked)

module _ {s : List ℕ} {budget : ℕ} {m d : List ℕ} {r : ℕ} {m' d' told : List ℕ} where
  pub write_returned_first : WriteTold s budget m d r m' d' told → get_or told 0 0 ≡ r
  write_returned_first h = first_of h.numbers ∙ sym h.number

  pub claim_writing_leaves : WriteTold s budget m d r m' d' told → Changes s m m' r × (1 ≤ r → d' ≡ d)
  claim_writing_leaves h = subst⁻¹ (λ (k : ℕ). Changes s m m' k × (1 ≤ k → d' ≡ d)) h.number (write_changes h.written)

-- ---- demand 2

module _ {s : List ℕ} {budget : ℕ} {m m' told : List ℕ} where
  -- the numbers told are those of a finished check
  pub check_0_exactly : CheckTold s budget m 0 m' told
      → (verdict : Verdict) × (told ≡ check_numbers (Done (get_or told value_at 0) verdict)) × CheckDone s budget m (get_or told value_at 0) verdict m'
  check_0_exactly h =
      let (verdict, is, done) = numbers.check_0_exactly h.checked (sym h.number) in
      let value : get_or told value_at 0 ≡ (reply_of h.answer).value = ap (λ (ns : List ℕ). get_or ns value_at 0) h.numbers in
      (verdict, h.numbers ∙ ap check_numbers (is ∙ ap (λ (k : ℕ). Done k verdict) (sym value)), rw value done)

-- ---- demand 3

-- `truppidane_check_claim` returns 0: no run of the table meets an error state
pub claim_0_safe : {s c m m' told : List ℕ} → ClaimTold s c m 0 m' told → RunsSafely s
claim_0_safe h = numbers.claim_0_safe h.checked (sym h.number)

module _ {s : List ℕ} {budget : ℕ} {m m' told : List ℕ} (h : CheckTold s budget m 0 m' told) where
  -- the verdict told is that of the answer
  judged : (verdict : Verdict) × (get_or told verdict_at 0 ≡ (of_verdict verdict).verdict) × ((count : ℕ) × Checked s budget m (Done count verdict) m')
  judged =
      let (verdict, is, _) = numbers.check_0_exactly h.checked (sym h.number) in (
        verdict,
        ap (λ (ns : List ℕ). get_or ns verdict_at 0) (h.numbers ∙ ap check_numbers is),
        (_, subst (λ (b : Answer). Checked s budget m b m') is h.checked),
      )

  -- `truppidane_check` returns 0 with verdict 1: the same
  pub check_0_safe : get_or told verdict_at 0 ≡ 1 → RunsSafely s
  check_0_safe one = let (verdict, is, (_, done)) = judged in by verdict is done
    where
      by : (verdict : Verdict) → get_or told verdict_at 0 ≡ (of_verdict verdict).verdict → {count : ℕ} → Checked s budget m (Done count verdict) m'
          → RunsSafely s
      by Safe is done = numbers.check_safe done
      by (Possible witness) is done = absurd (omega arith)

  -- it returns 0 with verdict 2: no claim is answered with 0
  pub possible_never_0 : get_or told verdict_at 0 ≡ 2 → {c k : List ℕ} {r : ℕ} {k' told' : List ℕ} → ClaimTold s c k r k' told' → 1 ≤ r
  possible_never_0 two {c} {k} {r} {k'} {told'} claimed = let (verdict, is, (_, done)) = judged in by verdict is done
    where
      by : (verdict : Verdict) → get_or told verdict_at 0 ≡ (of_verdict verdict).verdict → {count : ℕ} → Checked s budget m (Done count verdict) m'
          → 1 ≤ r
      by Safe is done = absurd (omega arith)
      by (Possible witness) is done = rw claimed.number (numbers.possible_never_0 done claimed.checked)
