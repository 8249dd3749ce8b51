-- What the claim check answers: the count of the claim that is accepted, or why none is. Each case has a name here, by which the statements speak of
-- it.
use Rattle.std.specs.Prelude.{ℕ, Result, Ok, Err}
use Rattle.numbers.specs.declared.refusals.Refusal.{Refusal}
use Rattle.findings.specs.declared.find.Fault.TheVariants as fault
use Rattle.claim_check_call.specs.declared.answer.ClaimRefusal.{ClaimRefusal}
use Rattle.claim_check_call.specs.declared.answer.ClaimRefusal.TheVariants as refusal

abbrev pub ClaimAnswer : Type 0
ClaimAnswer = Result ℕ ClaimRefusal

-- the claim is accepted: how many facts it claims
pattern abbrev pub Accepted : ℕ → ClaimAnswer
Accepted count = Ok count

-- the table's file is refused for its first fault
pattern abbrev pub TableRefused : Refusal → ClaimAnswer
TableRefused r = Err (refusal.Table r)

-- the working memory is shorter than W
pattern abbrev pub Short : ℕ → ClaimAnswer
Short w = Err (refusal.Short w)

-- the claim's file is refused for its first fault
pattern abbrev pub ClaimRefused : Refusal → ClaimAnswer
ClaimRefused r = Err (refusal.Claim r)

-- the smallest thread whose start fact the claim lacks
pattern abbrev pub LacksStart : ℕ → ClaimAnswer
LacksStart thread = Err (refusal.Fault (fault.LacksStart thread))

-- the smallest position that one use of a rule yields from claimed facts and that is not claimed
pattern abbrev pub NotClosed : ℕ → ClaimAnswer
NotClosed position = Err (refusal.Fault (fault.NotClosed position))

-- the smallest row number of an error that the claim allows
pattern abbrev pub AllowsError : ℕ → ClaimAnswer
AllowsError row = Err (refusal.Fault (fault.AllowsError row))
