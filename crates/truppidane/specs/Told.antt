-- Each answer as eleven numbers (document 01, "What comes back"): number, origin, value; the verdict with its witness, row, g and the local stores of
-- threads 0 to 3; and the number of bytes written. What an answer does not have is 0.
use Rattle.std.specs.Prelude.{List, [], ◌∷◌, ℕ, get_or, Option, None, Some, Ok, Err}
use Rattle.verdict.specs.declared.search.Witness.{Witness}
use Rattle.verdict.specs.declared.search.Verdict.{Verdict}
use Rattle.verdict.specs.declared.search.Verdict.TheVariants.{Safe, Possible}
use Rattle.check_call.specs.Answer.{Answer}
use Rattle.check_call.specs.declared.answer.Reply.{Reply}
use Rattle.check_call.specs.Answers.{reply_of}
use Rattle.claim_check_call.specs.ClaimAnswer.{ClaimAnswer}
use Rattle.claim_write_call.specs.WriteAnswer.{WriteAnswer}
use Rattle.claim_check_call.specs.Answers as claim
use Rattle.claim_write_call.specs.Answers.{write_reply_of, where_written}
use Rattle.truppidane.specs.declared.told.VerdictNumbers.{VerdictNumbers}

-- the numbers in their order
abbrev pub told_numbers : Reply → VerdictNumbers → ℕ → List ℕ
told_numbers reply judged bytes =
    let local : ℕ → ℕ = λ t. get_or judged.witness.locals t 0 in
    reply.number ∷ reply.origin ∷ reply.value
    ∷ judged.verdict ∷ judged.witness.row ∷ judged.witness.g ∷ local 0 ∷ local 1 ∷ local 2 ∷ local 3
    ∷ bytes ∷ []

-- ---- the verdict: 0 for none, 1 for "safe", 2 for "possible"

abbrev pub no_witness : Witness
no_witness = record { row = 0; g = 0; locals = 0 ∷ 0 ∷ 0 ∷ 0 ∷ [] }

abbrev pub no_verdict : VerdictNumbers
no_verdict = record { verdict = 0; witness = no_witness }

abbrev pub of_verdict : Verdict → VerdictNumbers
of_verdict Safe = record { verdict = 1; witness = no_witness }
of_verdict (Possible witness) = record { verdict = 2; witness = witness }

abbrev pub verdict_numbers : Option Verdict → VerdictNumbers
verdict_numbers None = no_verdict
verdict_numbers (Some verdict) = of_verdict verdict

-- "A finished check or claim writing also gives the verdict"
abbrev pub check_verdict : Answer → VerdictNumbers
check_verdict (Ok done) = of_verdict done.verdict
check_verdict (Err refusal) = no_verdict

abbrev pub write_verdict : WriteAnswer → VerdictNumbers
write_verdict = where_written (λ verdict bytes. of_verdict verdict) no_verdict

-- "On 0 every call that writes a file, claim or text also gives the number of bytes written."
abbrev pub write_bytes : WriteAnswer → ℕ
write_bytes = where_written (λ verdict bytes. bytes) 0

-- ---- the answers

abbrev pub check_numbers : Answer → List ℕ
check_numbers answer = told_numbers (reply_of answer) (check_verdict answer) 0

abbrev pub write_numbers : WriteAnswer → List ℕ
write_numbers answer = told_numbers (write_reply_of answer) (write_verdict answer) (write_bytes answer)

abbrev pub claim_numbers : ClaimAnswer → List ℕ
claim_numbers answer = told_numbers (claim.claim_reply_of answer) no_verdict 0
