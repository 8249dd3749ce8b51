-- Document 01's number, origin and value of each answer of the claim check ("What comes back": "An answer has a number, an origin (1 for a
-- claim's 1 to 6, else 0) and a value.").
use Rattle.std.specs.Prelude.{ℕ, Ok, Err}
use Rattle.model.specs.Claims.{Finding, accepted, lacks_start, not_closed, allows_error}
use Rattle.check_call.specs.declared.answer.Reply.{Reply}
use Rattle.check_call.specs.Answers.{plain, told}
use Rattle.findings.specs.declared.find.Fault.TheVariants as fault
use Rattle.claim_check_call.specs.declared.answer.ClaimRefusal.{ClaimRefusal}
use Rattle.claim_check_call.specs.declared.answer.ClaimRefusal.TheVariants as refusal
use Rattle.claim_check_call.specs.ClaimAnswer.{ClaimAnswer, Accepted, LacksStart, NotClosed, AllowsError}

abbrev pub reply_of_refusal : ClaimRefusal → Reply
reply_of_refusal (refusal.Table r) = told 0 r
reply_of_refusal (refusal.Short w) = plain 7 w
reply_of_refusal (refusal.Claim r) = told 1 r
reply_of_refusal (refusal.Fault (fault.LacksStart thread)) = plain 9 thread
reply_of_refusal (refusal.Fault (fault.NotClosed position)) = plain 10 position
reply_of_refusal (refusal.Fault (fault.AllowsError row)) = plain 11 row

abbrev pub claim_reply_of : ClaimAnswer → Reply
claim_reply_of (Ok count) = plain 0 count
claim_reply_of (Err refusal) = reply_of_refusal refusal

-- the answer that tells a finding on a claim of `count` facts: 0, 9, 10 and 11
abbrev pub answer_of : ℕ → Finding → ClaimAnswer
answer_of count accepted = Accepted count
answer_of count (lacks_start t) = LacksStart t
answer_of count (not_closed p) = NotClosed p
answer_of count (allows_error row) = AllowsError row
