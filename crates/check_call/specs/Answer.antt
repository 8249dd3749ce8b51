-- What the check answers: a finished check, or why there is none. Each case has a name here, by which the statements speak of it.
use Rattle.std.specs.Prelude.{ℕ, Result, Ok, Err}
use Rattle.numbers.specs.declared.refusals.Refusal.{Refusal}
use Rattle.verdict.specs.declared.search.Verdict.{Verdict}
use Rattle.check_call.specs.declared.answer.Done as finished
use Rattle.check_call.specs.declared.answer.CheckRefusal.{CheckRefusal}
use Rattle.check_call.specs.declared.answer.CheckRefusal.TheVariants as refusal

abbrev pub Answer : Type 0
Answer = Result finished.Done CheckRefusal

-- how many facts there are, and the verdict
abbrev pub Done : ℕ → Verdict → Answer
Done count verdict = Ok (record { count = count; verdict = verdict })

-- the table's file is refused for its first fault
pattern abbrev pub Refused : Refusal → Answer
Refused r = Err (refusal.File r)

-- the working memory is shorter than W
pattern abbrev pub Short : ℕ → Answer
Short w = Err (refusal.Short w)

-- there are more facts than the budget
pattern abbrev pub Over : ℕ → Answer
Over budget = Err (refusal.Over budget)
