-- `words::line::put_note` meets its contract: a word, a number, the rest and a line feed, each written past the one before it.
use mathlib.Core.Path.{refl}
use Rattle.std.proofs.Common.{rules}
use Rattle.words.proofs.WritingLaws.{wrote_then, written}
use Rattle.words.specs.Text.{note}
use Rattle.words.proofs.line.put_note.Goals as goal

pub returns : goal.returns
unfolding note
returns c =
    let said = wrote_then (wrote_then c.word.ensures c.field.ensures.0) c.word-2.ensures in
    let all = wrote_then said c.byte.ensures in
    let name = all.name in
    let text = written refl all in
    search rules
