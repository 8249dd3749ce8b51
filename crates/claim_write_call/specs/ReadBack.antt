-- What was written is read back (demand 2 of document 00: "Reading and writing claims follow the layout exactly"; demand 3: "the claim that it
-- writes is accepted"). The demands cite this file, and no contract.
use Rattle.std.specs.Prelude.{◌≡◌, List, ℕ, length}
use Rattle.numbers.specs.Reading.{got}
use Rattle.files.specs.Table.{Table, Sound, W}
use Rattle.model.specs.Rules.{Derives}
use Rattle.verdict.specs.declared.search.Verdict.{Verdict}
use Rattle.verdict.specs.Judged.{Answers}
use Rattle.claim_reader.specs.ClaimFile.{claim_at}
use Rattle.claim_write_call.specs.ClaimWriting.{ClaimOf}

-- the file is the claim of the facts of the table that s holds, of so many facts and with this verdict; a claim reader takes all its bytes and
-- finds these facts
pub record WrittenClaim (s : List ℕ) (count : ℕ) (verdict : Verdict) (bytes : ℕ) (file : List ℕ) : Type 0 where
  pub table : Table
  pub sound : Sound table
  pub claim : ClaimOf s table file
  pub counts : count ≡ length claim.positions
  pub judged : Answers table (Derives table) verdict
  pub reads : claim_at (W table) file ≡ got claim.positions bytes
