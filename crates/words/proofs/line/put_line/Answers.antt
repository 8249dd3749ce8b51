-- `words::line::put_line` meets its contract. The loop's invariant: the numbers so far are written after the word. What
-- the writer leaves is in the buffer, since it holds the same one all along (`name`).
use mathlib.Core.Path.{refl}
use Rattle.std.proofs.Common.{rules, arith}
use Rattle.words.proofs.WritingLaws.{written}
use Rattle.words.proofs.LineLaws.{numbers_none, numbers_more, line_whole}
use Rattle.words.proofs.line.put_line.Goals as goal

pub loop-number-init : goal.loop-number-init
loop-number-init c = numbers_none

pub loop-number-preserved : goal.loop-number-preserved
loop-number-preserved c = numbers_more c.loop-number.invariant (omega arith) c.field.ensures.0 c.field.ensures.1

pub returns : goal.returns
returns c =
    let all = line_whole c.loop-number.invariant c.word.ensures (omega arith) c.byte.ensures in
    let name = all.name in
    let text = written refl all in
    search rules
