-- What an answer means, whichever call gives it, and the number that tells it: document 01's table ("What comes back"), a line of it for each.
--     Meaning                             the meanings, in the order of the table
--     number_of                            the number of each
--     check_means, claim_means, write_means  the meaning of each answer of the check, of the claim check and of claim writing
use Rattle.std.specs.Prelude.{ℕ, Ok}
use Rattle.numbers.specs.declared.refusals.Refusal.{Refusal}
use Rattle.numbers.specs.declared.refusals.Refusal.TheVariants as refusal
use Rattle.check_call.specs.Answer.{Answer}
use Rattle.check_call.specs.Answer as check
use Rattle.claim_check_call.specs.ClaimAnswer.{ClaimAnswer}
use Rattle.claim_check_call.specs.ClaimAnswer as claim
use Rattle.claim_write_call.specs.WriteAnswer.{WriteAnswer}
use Rattle.claim_write_call.specs.WriteAnswer as write

pub data Meaning : Type 0 where
  done : Meaning
  cut : Meaning
  long : Meaning
  version : Meaning
  outside : Meaning
  not_above : Meaning
  bytes_after : Meaning
  short : Meaning
  over : Meaning
  lacks_start : Meaning
  not_closed : Meaning
  allows_error : Meaning
  no_space : Meaning

abbrev pub number_of : Meaning → ℕ
number_of done = 0
number_of cut = 1
number_of long = 2
number_of version = 3
number_of outside = 4
number_of not_above = 5
number_of bytes_after = 6
number_of short = 7
number_of over = 8
number_of lacks_start = 9
number_of not_closed = 10
number_of allows_error = 11
number_of no_space = 12

-- a refusal of a table's file, or of a claim's
abbrev pub refusal_means : Refusal → Meaning
refusal_means (refusal.Cut bytes) = cut
refusal_means (refusal.Long at) = long
refusal_means refusal.Version = version
refusal_means (refusal.Outside at) = outside
refusal_means (refusal.NotAbove at) = not_above
refusal_means (refusal.After at) = bytes_after

abbrev pub check_means : Answer → Meaning
check_means (Ok finished) = done
check_means (check.Refused r) = refusal_means r
check_means (check.Short w) = short
check_means (check.Over budget) = over

abbrev pub claim_means : ClaimAnswer → Meaning
claim_means (claim.Accepted count) = done
claim_means (claim.TableRefused r) = refusal_means r
claim_means (claim.Short w) = short
claim_means (claim.ClaimRefused r) = refusal_means r
claim_means (claim.LacksStart thread) = lacks_start
claim_means (claim.NotClosed position) = not_closed
claim_means (claim.AllowsError row) = allows_error

abbrev pub write_means : WriteAnswer → Meaning
write_means (Ok written) = done
write_means (write.Refused r) = refusal_means r
write_means (write.Short w) = short
write_means (write.Over budget) = over
write_means (write.NoSpace needed) = no_space
