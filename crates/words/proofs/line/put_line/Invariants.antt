-- `words::line::put_line` meets its contract. The loop's invariant: the numbers so far are written after the word.
use Rattle.words.proofs.LineLaws.{WroteFirst}
use Rattle.words.proofs.line.put_line.Given as goal

abbrev pub invariant-loop-number : goal.invariant-loop-number
invariant-loop-number l = WroteFirst l.numbers l.number-index l.initial.line l.line
