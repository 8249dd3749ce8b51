-- Two results that a contract on writing a text allows are equal, the answer and every byte of the lent buffer: both are the same text at the start
-- of the same buffer.
use mathlib.Core.Path.{◌≡◌, sym, ◌∙◌}
use mathlib.Core.List.{List}
use Prim.Native.Nat.{ℕ}
use contract.Lifetimes.{Lfts}
use denote.Triple.Clauses.{AtExit}
use borrow.Fn.Kinds.{Dens, ended_of}
use Rattle.words.specs.Text.{Written}
use Rattle.words.proofs.line.put_line.Reads as put-line
use Rattle.words.proofs.line.put_line.Kinds as put-line-kinds
use Rattle.words.proofs.line.put_note.Reads as put-note
use Rattle.words.proofs.line.put_note.Kinds as put-note-kinds

pub written_unique : {text before after after' : List ℕ} {r r' : ℕ} → Written text before after r → Written text before after' r'
    → (r ≡ r') × (after ≡ after')
written_unique w w' = (w.count ∙ sym w'.count, w.bytes ∙ sym w'.bytes)

pub put_line_fixes : (κs : Lfts 3) (a : Dens κs put-line-kinds.ps) (x x' : ℕ) (s s' : AtExit (ended_of 3 put-line-kinds.ps put-line-kinds.r) κs)
    → put-line.Post κs a x s → put-line.Post κs a x' s' → (x ≡ x') × (s.0.now ≡ s'.0.now)
put_line_fixes κs a x x' s s' = written_unique

pub put_note_fixes : (κs : Lfts 3) (a : Dens κs put-note-kinds.ps) (x x' : ℕ) (s s' : AtExit (ended_of 3 put-note-kinds.ps put-note-kinds.r) κs)
    → put-note.Post κs a x s → put-note.Post κs a x' s' → (x ≡ x') × (s.0.now ≡ s'.0.now)
put_note_fixes κs a x x' s s' = written_unique
