-- What claim writing answers: a claim that is written, or why there is none. Each case has a name here, by which the statements speak of it.
use Rattle.std.specs.Prelude.{ℕ, Result, Ok, Err}
use Rattle.numbers.specs.declared.refusals.Refusal.{Refusal}
use Rattle.verdict.specs.declared.search.Verdict.{Verdict}
use Rattle.check_call.specs.declared.answer.CheckRefusal.TheVariants as check
use Rattle.claim_write_call.specs.declared.answer.Written as claim
use Rattle.claim_write_call.specs.declared.answer.WriteRefusal.{WriteRefusal}
use Rattle.claim_write_call.specs.declared.answer.WriteRefusal.TheVariants as refusal

abbrev pub WriteAnswer : Type 0
WriteAnswer = Result claim.Written WriteRefusal

-- the claim is written: how many facts there are, the verdict, and how many bytes the claim takes
abbrev pub Written : ℕ → Verdict → ℕ → WriteAnswer
Written count verdict bytes = Ok (record { count = count; verdict = verdict; bytes = bytes })

-- the table's file is refused for its first fault
pattern abbrev pub Refused : Refusal → WriteAnswer
Refused r = Err (refusal.Check (check.File r))

-- the working memory is shorter than W
pattern abbrev pub Short : ℕ → WriteAnswer
Short w = Err (refusal.Check (check.Short w))

-- there are more facts than the budget
pattern abbrev pub Over : ℕ → WriteAnswer
Over budget = Err (refusal.Check (check.Over budget))

-- the space is shorter than the claim
pattern abbrev pub NoSpace : ℕ → WriteAnswer
NoSpace needed = Err (refusal.NoSpace needed)
