-- `numbers::writing::width` meets its contract: each branch is a law of how many bytes a number has.
use mathlib.Core.Path.{sym}
use Rattle.numbers.proofs.WritingLaws.{one_byte, two_bytes, three_bytes, four_bytes}
use Rattle.numbers.proofs.writing.width.Goals as goal

pub returns-then-value-lt128 : goal.returns-then-value-lt128
returns-then-value-lt128 c = sym (one_byte _ c.if-value-lt128.true)

pub returns-then-value-lt16384 : goal.returns-then-value-lt16384
returns-then-value-lt16384 c = sym (two_bytes _ c.if-value-lt128.false c.if-value-lt16384.true)

pub returns-then-value-lt2097152 : goal.returns-then-value-lt2097152
returns-then-value-lt2097152 c = sym (three_bytes _ c.if-value-lt16384.false c.if-value-lt2097152.true)

pub returns-else-value-lt2097152 : goal.returns-else-value-lt2097152
returns-else-value-lt2097152 c = sym (four_bytes _ c.if-value-lt2097152.false)
