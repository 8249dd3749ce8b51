-- Claim writing with memory, budget and space enough for every table. The program that lends so much cites this file, and no demand does.
use Rattle.std.specs.Prelude.{List, ℕ}
use Rattle.numbers.specs.declared.refusals.Refusal.{Refusal}
use Rattle.files.specs.Table.{most_facts}
use Rattle.verdict.specs.declared.search.Verdict.{Verdict}
use Rattle.claim_write_call.specs.WriteAnswer.{WriteAnswer}
use Rattle.claim_write_call.specs.WriteAnswer as answer
use Rattle.claim_write_call.specs.ClaimWriting.{ClaimWritten}

-- 1 to 6 or 0: the table is refused, or its claim is written
pub data RefusedOrWritten : WriteAnswer → Type 0 where
  refused : {x : Refusal} → RefusedOrWritten (answer.Refused x)
  written : {count : ℕ} {verdict : Verdict} {bytes : ℕ} → RefusedOrWritten (answer.Written count verdict bytes)

-- what comes back of a table's file s with the largest W for a budget
pub record AnyWritten (s m d : List ℕ) (r : WriteAnswer) (m' d' : List ℕ) : Type 0 where
  pub told : ClaimWritten s most_facts m d r m' d'
  pub ends : RefusedOrWritten r
