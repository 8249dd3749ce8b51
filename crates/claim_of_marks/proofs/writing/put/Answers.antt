-- `claim_of_marks::writing::put` meets its contract: where a number has room, it is written.
use native.Mathlib.Omega.{arith}
use mathlib.Core.Path.{sym, ◌∙◌}
use Rattle.numbers.proofs.WritingLaws.{put_room}
use Rattle.claim_of_marks.proofs.writing.put.Goals as goal

pub returns : goal.returns
returns c =
    let a = c.args in
    let wrote = put_room a.space.now a.at a.value (omega arith) (omega arith) in
    let e = c.put_number.ensures in
    record { bytes = e.1 ∙ sym wrote.1; next = e.0 ∙ sym wrote.0 }
