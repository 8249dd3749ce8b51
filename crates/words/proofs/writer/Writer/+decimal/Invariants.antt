-- `words::writer::Writer::decimal` meets its contract: a number below 10 is its last digit, and any other is the digits of its tenth and the last.
-- The measure is the number.
use Rattle.words.proofs.writer.Writer.+decimal.Given as goal

-- proposed from what the function passes where it calls itself
abbrev pub decreases-decimal : goal.decreases-decimal
decreases-decimal l = l.v
