-- Two results that a contract allows are equal: for each public function, of its contract as the prover reads it from the source (`Post`). Each contract
-- is an equation.
use mathlib.Core.Path.{◌≡◌, sym, ◌∙◌}
use mathlib.Core.List.{List}
use Prim.Native.Nat.{ℕ}
use contract.Lifetimes.{Lfts}
use denote.Triple.Clauses.{AtExit}
use borrow.Fn.Kinds.{ParamKind, ResultKind, Out, Dens, res_t, ended_of}
use Rattle.text.proofs.line.Line.new.Reads as new
use Rattle.text.proofs.line.Line.new.Kinds as new-kinds
use Rattle.text.proofs.line.Line.note.Reads as note
use Rattle.text.proofs.line.Line.note.Kinds as note-kinds
use Rattle.text.proofs.line.Line.as_bytes.Reads as as-bytes
use Rattle.text.proofs.line.Line.as_bytes.Kinds as as-bytes-kinds
use Rattle.text.proofs.lines.facts_line.Reads as facts-line
use Rattle.text.proofs.lines.facts_line.Kinds as facts-line-kinds
use Rattle.text.proofs.lines.safe_line.Reads as safe-line
use Rattle.text.proofs.lines.safe_line.Kinds as safe-line-kinds
use Rattle.text.proofs.lines.possible_line.Reads as possible-line
use Rattle.text.proofs.lines.possible_line.Kinds as possible-line-kinds
use Rattle.text.proofs.lines.refused_line.Reads as refused-line
use Rattle.text.proofs.lines.refused_line.Kinds as refused-line-kinds
use Rattle.text.proofs.lines.bytes_line.Reads as bytes-line
use Rattle.text.proofs.lines.bytes_line.Kinds as bytes-line-kinds
use Rattle.text.proofs.lines.accepted_line.Reads as accepted-line
use Rattle.text.proofs.lines.accepted_line.Kinds as accepted-line-kinds
use Rattle.text.proofs.lines.claim_refused_line.Reads as claim-refused-line
use Rattle.text.proofs.lines.claim_refused_line.Kinds as claim-refused-line-kinds
use Rattle.text.proofs.reasons.reason_line.Reads as reason-line
use Rattle.text.proofs.reasons.reason_line.Kinds as reason-line-kinds

-- the claim of an `ensures` fixes the result
abbrev pub Fixes : (n : ℕ) (ps : List (ParamKind n)) (r : ResultKind n) → Out n ps r → Type 0
Fixes n ps r Post =
    (κs : Lfts n) (a : Dens κs ps) (x x' : (res_t r κs).Denot) (s s' : AtExit (ended_of n ps r) κs) → Post κs a x s → Post κs a x' s' → x ≡ x'

pub new_fixes : Fixes 2 new-kinds.ps new-kinds.r new.Post
new_fixes κs a x x' s s' p q = p ∙ sym q

pub note_fixes : Fixes 2 note-kinds.ps note-kinds.r note.Post
note_fixes κs a x x' s s' p q = p ∙ sym q

pub as_bytes_fixes : (κs : Lfts 1) (a : Dens κs as-bytes-kinds.ps) (x x' : (res_t as-bytes-kinds.r κs).Denot)
    (s s' : AtExit (ended_of 1 as-bytes-kinds.ps as-bytes-kinds.r) κs) → as-bytes.Post κs a x s → as-bytes.Post κs a x' s' → x.now ≡ x'.now
as_bytes_fixes κs a x x' s s' p q = p.0 ∙ sym q.0

pub facts_line_fixes : Fixes 0 facts-line-kinds.ps facts-line-kinds.r facts-line.Post
facts_line_fixes κs a x x' s s' p q = p ∙ sym q

pub safe_line_fixes : Fixes 0 safe-line-kinds.ps safe-line-kinds.r safe-line.Post
safe_line_fixes κs a x x' s s' p q = p ∙ sym q

pub possible_line_fixes : Fixes 0 possible-line-kinds.ps possible-line-kinds.r possible-line.Post
possible_line_fixes κs a x x' s s' p q = p ∙ sym q

pub refused_line_fixes : Fixes 0 refused-line-kinds.ps refused-line-kinds.r refused-line.Post
refused_line_fixes κs a x x' s s' p q = p ∙ sym q

pub bytes_line_fixes : Fixes 0 bytes-line-kinds.ps bytes-line-kinds.r bytes-line.Post
bytes_line_fixes κs a x x' s s' p q = p ∙ sym q

pub accepted_line_fixes : Fixes 0 accepted-line-kinds.ps accepted-line-kinds.r accepted-line.Post
accepted_line_fixes κs a x x' s s' p q = p ∙ sym q

pub claim_refused_line_fixes : Fixes 0 claim-refused-line-kinds.ps claim-refused-line-kinds.r claim-refused-line.Post
claim_refused_line_fixes κs a x x' s s' p q = p ∙ sym q

pub reason_line_fixes : Fixes 0 reason-line-kinds.ps reason-line-kinds.r reason-line.Post
reason_line_fixes κs a x x' s s' p q = p ∙ sym q
