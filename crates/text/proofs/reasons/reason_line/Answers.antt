-- `text::reasons::reason_line` meets its contract: each number's line is the one that stands at it in `reasons`, and the others have none.
use Rattle.text.specs.Reasons.{reasons}
use Rattle.text.proofs.reasons.reason_line.Goals as goal
use Rattle.text.proofs.reasons.reason_line.Goals.{in-1, in-2, in-3, in-4, in-5, in-6, in-7, in-8, in-9, in-10, in-11, in-12}

pub returns : goal.returns
unfolding reasons
returns c =
    elim c.match-number.branch [
      | in-1 w ↦ rw (w.line-is, w.in-1.is, w.note-line.ensures, c.byte_of-byte.ensures)
      | in-2 w ↦ rw (w.line-is, w.in-2.is, w.note-line-in-2.ensures, c.byte_of-byte.ensures)
      | in-3 w ↦ rw (w.line-is, w.in-3.is, w.note-line-in-3.ensures, c.byte_of-byte.ensures)
      | in-4 w ↦ rw (w.line-is, w.in-4.is, w.note-line-in-4.ensures, c.byte_of-byte.ensures)
      | in-5 w ↦ rw (w.line-is, w.in-5.is, w.note-line-in-5.ensures, c.byte_of-byte.ensures)
      | in-6 w ↦ rw (w.line-is, w.in-6.is, w.note-line-in-6.ensures, c.byte_of-byte.ensures)
      | in-7 w ↦ rw (w.line-is, w.in-7.is, w.note-line-in-7.ensures)
      | in-8 w ↦ rw (w.line-is, w.in-8.is, w.note-line-in-8.ensures)
      | in-9 w ↦ rw (w.line-is, w.in-9.is, w.note-line-in-9.ensures)
      | in-10 w ↦ rw (w.line-is, w.in-10.is, w.note-line-in-10.ensures)
      | in-11 w ↦ rw (w.line-is, w.in-11.is, w.note-line-in-11.ensures)
      | in-12 w ↦ rw (w.line-is, w.in-12.is, w.note-line-in-12.ensures)
    ]
