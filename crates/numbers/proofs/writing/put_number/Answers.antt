-- `numbers::writing::put_number` meets its contract: each way out is a law of what is left in the slice.
use native.Mathlib.Omega.{arith}
use Rattle.numbers.proofs.WritingLaws.{one_to_four_bytes, put_room, put_big, put_full}
use Rattle.numbers.proofs.writing.put_number.Goals as goal

pub returns-then-value-ge268435456 : goal.returns-then-value-ge268435456
returns-then-value-ge268435456 c = put_big _ _ _ c.if-value-ge268435456.true

pub returns-then-saturating_sub-n : goal.returns-then-saturating_sub-n
returns-then-saturating_sub-n c = put_full _ _ _ (omega arith)

pub put-requires : goal.put-requires
put-requires c = let some = one_to_four_bytes c.args.value in (omega arith, omega arith)

pub returns : goal.returns
returns c =
    let some = one_to_four_bytes c.args.value in
    rw (c.width-n.ensures, c.put.ensures) (put_room _ _ _ (omega arith) (omega arith))
