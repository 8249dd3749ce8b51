-- Document 01's number, origin and value of each answer of claim writing ("What comes back"). No claim is read, so the origin is 0.
use Rattle.std.specs.Prelude.{ℕ, Ok, Err}
use Rattle.verdict.specs.declared.search.Verdict.{Verdict}
use Rattle.check_call.specs.declared.answer.Reply.{Reply}
use Rattle.check_call.specs.Answers as check
use Rattle.check_call.specs.Answers.{plain}
use Rattle.claim_write_call.specs.declared.answer.WriteRefusal.{WriteRefusal}
use Rattle.claim_write_call.specs.declared.answer.WriteRefusal.TheVariants.{Check, NoSpace}
use Rattle.claim_write_call.specs.WriteAnswer.{WriteAnswer}

abbrev pub reply_of_refusal : WriteRefusal → Reply
reply_of_refusal (Check refusal) = check.reply_of_refusal refusal
reply_of_refusal (NoSpace needed) = plain 12 needed

abbrev pub write_reply_of : WriteAnswer → Reply
write_reply_of (Ok written) = plain 0 written.count
write_reply_of (Err refusal) = reply_of_refusal refusal

-- what a written claim gives by its verdict and its number of bytes, and what stands in its place where none is written
abbrev pub where_written : {A : Type 0} → (Verdict → ℕ → A) → A → WriteAnswer → A
where_written given none (Ok written) = given written.verdict written.bytes
where_written given none (Err refusal) = none
