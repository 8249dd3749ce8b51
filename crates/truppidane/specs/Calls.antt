-- What the exported functions do, on every input (document 01, "What comes back"): some answer that the call's own contract allows is told as its
-- numbers, and its number is given.
use Rattle.std.specs.Prelude.{◌≡◌, List, ℕ}
use Rattle.check_call.specs.Answer.{Answer}
use Rattle.check_call.specs.Answers.{reply_of}
use Rattle.check_call.specs.Checking.{Checked}
use Rattle.claim_check_call.specs.ClaimAnswer.{ClaimAnswer}
use Rattle.claim_write_call.specs.WriteAnswer.{WriteAnswer}
use Rattle.claim_check_call.specs.Answers as claim
use Rattle.claim_write_call.specs.Answers.{write_reply_of}
use Rattle.claim_check_call.specs.ClaimChecking.{ClaimChecked}
use Rattle.claim_write_call.specs.ClaimWriting.{ClaimWritten}
use Rattle.truppidane.specs.Told.{check_numbers, write_numbers, claim_numbers}

-- the check of the file s within a budget, in the memory m, which is left as m'
pub record CheckTold (s : List ℕ) (budget : ℕ) (m : List ℕ) (r : ℕ) (m' told : List ℕ) : Type 0 where
  pub answer : Answer
  pub checked : Checked s budget m answer m'
  pub number : r ≡ (reply_of answer).number
  pub numbers : told ≡ check_numbers answer

-- the writing of the claim of s into the space d, which is left as d'
pub record WriteTold (s : List ℕ) (budget : ℕ) (m d : List ℕ) (r : ℕ) (m' d' told : List ℕ) : Type 0 where
  pub answer : WriteAnswer
  pub written : ClaimWritten s budget m d answer m' d'
  pub number : r ≡ (write_reply_of answer).number
  pub numbers : told ≡ write_numbers answer

-- the check of the claim c for the file s
pub record ClaimTold (s c m : List ℕ) (r : ℕ) (m' told : List ℕ) : Type 0 where
  pub answer : ClaimAnswer
  pub checked : ClaimChecked s c m answer m'
  pub number : r ≡ (claim.claim_reply_of answer).number
  pub numbers : told ≡ claim_numbers answer
