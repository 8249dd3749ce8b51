-- `words::writer::Writer::word` meets its contract: what is copied stands past what was written.
use mathlib.Core.Path.{refl}
use native.Mathlib.Omega.{arith}
use Rattle.words.proofs.WritingLaws.{bytes_copied}
use Rattle.words.proofs.writer.Writer.word.Goals as goal

pub returns : goal.returns
returns c = record {
  name = refl;
  long = search;
  bytes = bytes_copied _ _ _ _ _ c.copy_from_slice.ensures.after (omega arith) c.requires;
  next = refl;
}
