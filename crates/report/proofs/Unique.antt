-- Two results that a contract allows are equal: for each public function, of its contract as the prover reads it from the source (`Post`). Of two facts
-- that come next, neither comes before the other, so it is one, and its line is one text.
use mathlib.Core.Path.{◌≡◌, refl, sym, ap, ◌∙◌}
use mathlib.Core.List.{List}
use Prim.Native.Nat.{ℕ, ◌+◌}
use Rattle.numbers.proofs.ReadingLaws.{never}
use Rattle.model.proofs.Unique.{first_same}
use Rattle.files.specs.Table.{Table}
use Rattle.model.specs.Positions.{fact_at}
use Rattle.fact_text.specs.FactLines.{fact_line}
use Rattle.text.proofs.Unique.{Fixes}
use Rattle.std.specs.Prelude.{Option, Some}
use Rattle.report.specs.declared.facts.ListedFact.{ListedFact}
use Rattle.report.specs.Listed.{NextIn, line, end, NextOf, read, refused}
use Rattle.report.proofs.ListedLaws.{got_header}
use Rattle.report.proofs.answers.first_line.Reads as first-line
use Rattle.report.proofs.answers.first_line.Kinds as first-line-kinds
use Rattle.report.proofs.answers.line_of_reply.Reads as line-of-reply
use Rattle.report.proofs.answers.line_of_reply.Kinds as line-of-reply-kinds
use Rattle.report.proofs.answers.line_of_verdict.Reads as line-of-verdict
use Rattle.report.proofs.answers.line_of_verdict.Kinds as line-of-verdict-kinds
use Rattle.report.proofs.answers.verdict_line.Reads as verdict-line
use Rattle.report.proofs.answers.verdict_line.Kinds as verdict-line-kinds
use Rattle.report.proofs.answers.reason_of_reply.Reads as reason-of-reply
use Rattle.report.proofs.answers.reason_of_reply.Kinds as reason-of-reply-kinds
use Rattle.report.proofs.facts.next_fact.Reads as next-fact
use Rattle.report.proofs.facts.next_fact.Kinds as next-fact-kinds

-- ---- the lines of an answer

pub line_of_reply_fixes : Fixes 0 line-of-reply-kinds.ps line-of-reply-kinds.r line-of-reply.Post
line_of_reply_fixes κs a x x' s s' p q = p ∙ sym q

pub first_line_fixes : Fixes 0 first-line-kinds.ps first-line-kinds.r first-line.Post
first_line_fixes κs a x x' s s' p q = p ∙ sym q

pub line_of_verdict_fixes : Fixes 1 line-of-verdict-kinds.ps line-of-verdict-kinds.r line-of-verdict.Post
line_of_verdict_fixes κs a x x' s s' p q = p ∙ sym q

pub verdict_line_fixes : Fixes 1 verdict-line-kinds.ps verdict-line-kinds.r verdict-line.Post
verdict_line_fixes κs a x x' s s' p q = p ∙ sym q

-- ---- what a refusal says

pub reason_of_reply_fixes : Fixes 0 reason-of-reply-kinds.ps reason-of-reply-kinds.r reason-of-reply.Post
reason_of_reply_fixes κs a x x' s s' p q = p ∙ sym q

-- ---- the next fact

-- the line of the fact at p, and the position past it
abbrev fact_of : Table → ℕ → Option ListedFact
fact_of T p = Some (record { line = fact_line (fact_at T p); next = p + 1 })

next_in_same : (T : Table) {A : ℕ → Type 0} {from : ℕ} {r r' : Option ListedFact} → NextIn T A from r → NextIn T A from r' → r ≡ r'
next_in_same T (line f) (line f') = ap (fact_of T) (first_same f f')
next_in_same T (line f) (end none) = absurd (none _ f.here)
next_in_same T (end none) (line f) = absurd (none _ f.here)
next_in_same T (end none) (end none') = refl

pub next_of_same : {s mem : List ℕ} {from : ℕ} {r r' : Option ListedFact} → NextOf s mem from r → NextOf s mem from r' → r ≡ r'
next_of_same (read e n) (read e' n') = next_in_same _ n (rw (got_header (sym e' ∙ e)) at n')
next_of_same (read e n) (refused e') = let q = sym e ∙ e' in never (cc)
next_of_same (refused e) (read e' n') = let q = sym e ∙ e' in never (cc)
next_of_same (refused e) (refused e') = refl

pub next_fact_fixes : Fixes 2 next-fact-kinds.ps next-fact-kinds.r next-fact.Post
next_fact_fixes κs a x x' s s' = next_of_same
