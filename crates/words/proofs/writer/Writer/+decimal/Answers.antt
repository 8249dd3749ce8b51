-- `words::writer::Writer::decimal` meets its contract: a number below 10 is its last digit, and any other is the digits of its tenth and the last.
-- The measure is the number.
use native.Mathlib.Omega.{arith}
use Rattle.words.proofs.DecimalLaws.{length_one, length_more}
use Rattle.words.proofs.WritingLaws.{wrote_one, wrote_more}
use Rattle.words.proofs.writer.Writer.+decimal.Goals.{then-more, else-more}
use Rattle.words.proofs.writer.Writer.+decimal.Goals as goal

pub decimal-requires : goal.decimal-requires
decimal-requires t c = let more = length_more _ c.if-more.true in (omega arith, omega arith)

pub byte-requires : goal.byte-requires
byte-requires t c =
    elim c.if-more.branch [
      | then-more w ↦ rw w.self-is (omega (arith, length_more c.args.v (omega arith), w.decimal.ensures.next, w.decimal.ensures.long))
      | else-more w ↦ rw w.self-is (omega (arith, length_one c.args.v (omega arith)))
    ]

pub returns : goal.returns
returns t c =
    elim c.if-more.branch [
      | then-more w ↦ wrote_more (omega arith) w.self-is w.decimal.ensures c.byte.ensures
      | else-more w ↦ wrote_one (omega arith) w.self-is c.byte.ensures
    ]
