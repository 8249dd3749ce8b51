-- The lines that the programs on claims print of an answer. What they have in common with a listing's lines (document 01, "Reference tables and
-- results") reads as it does there; the first line of an answer of claim writing is a listing's `line_of_reply`.
use Rattle.std.specs.Prelude.{List, ℕ, eqb, Option, None, Some}
use Rattle.numbers.specs.Reading.{pick}
use Rattle.text.specs.Listing.{bytes_line, accepted_line, claim_refused_line}
use Rattle.report.specs.Answers.{line_of_verdict}
use Rattle.check_call.specs.declared.answer.Reply.{Reply}
use Rattle.claim_write_call.specs.WriteAnswer.{WriteAnswer}
use Rattle.claim_write_call.specs.Answers.{where_written}

-- ---- claim writing

-- the verdict on a table of n threads; a refusal has no line
abbrev pub written_verdict_line : ℕ → WriteAnswer → Option (List ℕ)
written_verdict_line n = where_written (λ verdict bytes. Some (line_of_verdict n verdict)) None

-- how many bytes the claim takes
abbrev pub bytes_line_of : WriteAnswer → Option (List ℕ)
bytes_line_of = where_written (λ verdict bytes. Some (bytes_line bytes)) None

-- ---- the claim check

-- of an answer's reply: number 0 is accepted, and its value is the claim's count
abbrev pub line_of_claim_reply : Reply → List ℕ
line_of_claim_reply r = pick (eqb r.number 0) (accepted_line r.value) (claim_refused_line r.number r.value r.origin)
