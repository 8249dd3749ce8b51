-- The lines that a listing prints of an answer of the check (document 01, "Reference tables and results"), and what a refusal of any call says.
use Rattle.std.specs.Prelude.{List, ℕ, eqb, take, Option, None, Some, Ok, Err}
use Rattle.numbers.specs.Reading.{Out, got, bad, pick}
use Rattle.files.specs.declared.header.Header.{Header}
use Rattle.files.specs.Header.{header_at}
use Rattle.verdict.specs.declared.search.Verdict.{Verdict}
use Rattle.verdict.specs.declared.search.Verdict.TheVariants.{Safe, Possible}
use Rattle.check_call.specs.Answer.{Answer}
use Rattle.check_call.specs.declared.answer.Reply.{Reply}
use Rattle.text.specs.Listing.{facts_line, safe_line, possible_line, refused_line}
use Rattle.text.specs.Reasons.{reason_line}

-- ---- the first line

-- of an answer's reply: number 0 is done, and its value is the fact count; any other is "the one line `refused` with number and value"
abbrev pub line_of_reply : Reply → List ℕ
line_of_reply r = pick (eqb r.number 0) (facts_line r.value) (refused_line r.number r.value)

-- ---- the line of the verdict

-- a witness has four places, and the first n are the threads'
abbrev pub line_of_verdict : ℕ → Verdict → List ℕ
line_of_verdict n Safe = safe_line
line_of_verdict n (Possible w) = possible_line w.row w.g (take n w.locals)

-- of an answer for n threads; a refusal has none
abbrev pub verdict_line : ℕ → Answer → Option (List ℕ)
verdict_line n (Ok done) = Some (line_of_verdict n done.verdict)
verdict_line n (Err refusal) = None

-- how many threads a header that was read has; none if it is refused, where no check is done
abbrev pub threads_in : Out Header → ℕ
threads_in (got h next) = h.sizes.threads
threads_in (bad r) = 0

-- how many threads a table file has
abbrev pub threads_of : List ℕ → ℕ
threads_of s = threads_in (header_at s)

-- ---- what a refusal says

-- the reply's number, value and origin, in words; every call makes a reply
abbrev pub reason_of_reply : Reply → Option (List ℕ)
reason_of_reply r = reason_line r.number r.value r.origin
