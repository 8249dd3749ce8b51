-- Two results that a contract allows are equal: for each public function, of its contract as the prover reads it from the source (`Post`). Each contract
-- is an equation.
use mathlib.Core.Path.{sym, ◌∙◌}
use Rattle.text.proofs.Unique.{Fixes}
use Rattle.fact_text.proofs.facts.fact_at.Reads as fact-at
use Rattle.fact_text.proofs.facts.fact_at.Kinds as fact-at-kinds
use Rattle.fact_text.proofs.line.fact_line.Reads as fact-line
use Rattle.fact_text.proofs.line.fact_line.Kinds as fact-line-kinds

pub fact_line_fixes : Fixes 0 fact-line-kinds.ps fact-line-kinds.r fact-line.Post
fact_line_fixes κs a x x' s s' p q = p ∙ sym q

pub fact_at_fixes : Fixes 0 fact-at-kinds.ps fact-at-kinds.r fact-at.Post
fact_at_fixes κs a x x' s s' p q = p ∙ sym q
