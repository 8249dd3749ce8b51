-- Two results that a contract allows are equal: for each public function, of its contract as the prover reads it from the source (`Post`). Each contract
-- is an equation.
use mathlib.Core.Path.{sym, ◌∙◌}
use Rattle.text.proofs.Unique.{Fixes}
use Rattle.claim_report.proofs.written.first_line.Reads as first-line
use Rattle.claim_report.proofs.written.first_line.Kinds as first-line-kinds
use Rattle.claim_report.proofs.written.verdict_line.Reads as verdict-line
use Rattle.claim_report.proofs.written.verdict_line.Kinds as verdict-line-kinds
use Rattle.claim_report.proofs.written.bytes_line.Reads as bytes-line
use Rattle.claim_report.proofs.written.bytes_line.Kinds as bytes-line-kinds
use Rattle.claim_report.proofs.checked.checked_line.Reads as checked-line
use Rattle.claim_report.proofs.checked.checked_line.Kinds as checked-line-kinds

-- ---- claim writing

pub first_line_fixes : Fixes 0 first-line-kinds.ps first-line-kinds.r first-line.Post
first_line_fixes κs a x x' s s' p q = p ∙ sym q

pub verdict_line_fixes : Fixes 1 verdict-line-kinds.ps verdict-line-kinds.r verdict-line.Post
verdict_line_fixes κs a x x' s s' p q = p ∙ sym q

pub bytes_line_fixes : Fixes 0 bytes-line-kinds.ps bytes-line-kinds.r bytes-line.Post
bytes_line_fixes κs a x x' s s' p q = p ∙ sym q

-- ---- the claim check

pub checked_line_fixes : Fixes 0 checked-line-kinds.ps checked-line-kinds.r checked-line.Post
checked_line_fixes κs a x x' s s' p q = p ∙ sym q
