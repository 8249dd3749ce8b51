-- The widths of the version and the count, and that of the positions.
use native.Mathlib.Omega.{arith}
use Rattle.numbers.proofs.WritingLaws.{one_to_four_bytes}
use Rattle.claim_of_marks.proofs.WritingLoops.{totals_small, totals_claim}
use Rattle.claim_of_marks.proofs.marked.MarkedFacts.claim_width.Goals as goal

pub overflow_add-result : goal.overflow_add-result
overflow_add-result c = omega (arith, one_to_four_bytes 1, one_to_four_bytes c.totals-totals.result.count)

pub overflow_add-result-2 : goal.overflow_add-result-2
overflow_add-result-2 c =
    let sizes = c.totals-totals in
    omega (arith, one_to_four_bytes 1, one_to_four_bytes sizes.result.count, totals_small _ _ sizes.ensures)

pub returns : goal.returns
returns c = omega (arith, totals_claim _ _ c.totals-totals.ensures)
