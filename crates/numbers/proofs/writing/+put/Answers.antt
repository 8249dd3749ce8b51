-- `numbers::writing::put` meets its contract: the bytes of a number are its lowest seven bits and the bytes of the rest. The measure is the value.
use native.Mathlib.Omega.{arith}
use native.Mathlib.Numerals.{add-one}
use lib.ListN.{length-set}
use Rattle.numbers.proofs.WritingLaws.{bytes_last, bytes_more, one_to_four_bytes}
use Rattle.numbers.proofs.writing.+put.Goals as goal

pub bounds-dst-at : goal.bounds-dst-at
bounds-dst-at t c = omega (arith, one_to_four_bytes c.args.value)

pub put-requires : goal.put-requires
put-requires t c =
    let room = rw (bytes_more _ c.if-value-ge128.true c.requires.0) at c.requires.1 in
    (omega arith, (omega arith, rw length-set (omega arith)))

pub bounds-dst-at-else-value-ge128 : goal.bounds-dst-at-else-value-ge128
bounds-dst-at-else-value-ge128 t c = omega (arith, one_to_four_bytes c.args.value)

pub returns-then-value-ge128 : goal.returns-then-value-ge128
returns-then-value-ge128 t c = rw (c.put.ensures, bytes_more _ c.if-value-ge128.true c.requires.0, add-one c.args.at)

pub returns-else-value-ge128 : goal.returns-else-value-ge128
returns-else-value-ge128 t c = rw (bytes_last _ c.if-value-ge128.false)
