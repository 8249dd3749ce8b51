-- The version, the count and the positions are put one after the other. The room for the claim is the room for each.
use native.Mathlib.Omega.{arith}
use Rattle.claim_of_marks.proofs.WritingLoops.{totals_count, totals_width, totals_small, totals_claim, claim_put}
use Rattle.claim_of_marks.proofs.marked.MarkedFacts.put_claim.Goals as goal

pub put-second-requires : goal.put-second-requires
put-second-requires c = omega (arith, totals_claim _ _ c.totals-totals.ensures)

pub put-third-requires : goal.put-third-requires
put-third-requires c =
    let sizes = c.totals-totals in
    omega (arith, totals_claim _ _ sizes.ensures, totals_small _ _ sizes.ensures, c.args.self.now.few, c.put-second.ensures.next)

pub put_positions-requires : goal.put_positions-requires
put_positions-requires c =
    let sizes = c.totals-totals in
    omega (arith, totals_claim _ _ sizes.ensures, totals_width _ _ sizes.ensures, c.put-second.ensures.next, c.put-third.ensures.next)

pub returns : goal.returns
returns c =
    let counted = totals_count _ _ c.totals-totals.ensures in
    claim_put _ c.put-second.ensures (rw counted at c.put-third.ensures) c.put_positions.ensures
