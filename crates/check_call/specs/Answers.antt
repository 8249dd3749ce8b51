-- Document 01's number, origin and value of each answer of the check ("What comes back": "An answer has a number, an origin (1 for a claim's 1 to
-- 6, else 0) and a value."); and the two kinds of reply that the answers on claims have as well.
use Rattle.std.specs.Prelude.{ℕ, Ok, Err}
use Rattle.numbers.specs.declared.refusals.Refusal.{Refusal}
use Rattle.numbers.specs.Refusals.{told_of}
use Rattle.check_call.specs.declared.answer.CheckRefusal.{CheckRefusal}
use Rattle.check_call.specs.declared.answer.CheckRefusal.TheVariants.{File, Short, Over}
use Rattle.check_call.specs.declared.answer.Reply.{Reply}
use Rattle.check_call.specs.Answer.{Answer}

-- a number and a value, of origin 0
abbrev pub plain : ℕ → ℕ → Reply
plain number value = record { number = number; origin = 0; value = value }

-- 1 to 6, of the origin
abbrev pub told : ℕ → Refusal → Reply
told origin refusal = record { number = (told_of refusal).number; origin = origin; value = (told_of refusal).value }

-- no claim is read, so the origin is 0
abbrev pub reply_of_refusal : CheckRefusal → Reply
reply_of_refusal (File refusal) = told 0 refusal
reply_of_refusal (Short w) = plain 7 w
reply_of_refusal (Over budget) = plain 8 budget

abbrev pub reply_of : Answer → Reply
reply_of (Ok done) = plain 0 done.count
reply_of (Err refusal) = reply_of_refusal refusal
