-- What the private functions of claim writing answer. Only their contracts cite this file.
use Rattle.std.specs.Prelude.{◌≡◌, List, ℕ, ◌≤◌, ◌<◌, length}
use Rattle.std.proofs.lemmas.List.Edits.{sets}
use Rattle.numbers.specs.Reading.{got}
use Rattle.files.specs.Table.{Table, W}
use Rattle.files.specs.File.{table_at}
use Rattle.store.specs.Clearing.{Cleared}
use Rattle.verdict.specs.declared.search.Verdict.{Verdict}
use Rattle.claim_reader.specs.ClaimFile.{claim_bytes}
use Rattle.claim_reader.specs.Marks.{positions_in}
use Rattle.claim_write_call.specs.WriteAnswer.{WriteAnswer, Written, NoSpace}

-- w is the room W of the table that the file s holds; of a file that is refused nothing is said
abbrev pub WOf : List ℕ → ℕ → Type 0
WOf s w = (T : Table) (next : ℕ) → table_at s ≡ got T next → w ≡ W T

-- the claim of the first w marks of a memory
abbrev pub marks_claim : ℕ → List ℕ → List ℕ
marks_claim w m = claim_bytes (positions_in w m)

-- the claim of the first w marks of the memory m is written into the space d; or it has no room there, and these marks are cleared
pub data MarksWritten (w count : ℕ) (verdict : Verdict) (m d : List ℕ) : WriteAnswer → List ℕ → List ℕ → Type 0 where
  no_room : {m' : List ℕ} → length d < length (marks_claim w m) → Cleared w m m'
      → MarksWritten w count verdict m d (NoSpace (length (marks_claim w m))) m' d
  put : length (marks_claim w m) ≤ length d
      → MarksWritten w count verdict m d (Written count verdict (length (marks_claim w m))) m (sets d 0 (marks_claim w m))
