-- `claim_reader::reading::Claim::mark_positions` meets its contract: a turn marks the next position. What reads well is not refused.
use native.Mathlib.Omega.{arith}
use mathlib.Core.Path.{refl, sym, ap, ◌∙◌}
use Rattle.numbers.proofs.ReadingLaws.{value_got}
use Rattle.claim_reader.proofs.PositionLaws.{position_got}
use Rattle.claim_reader.proofs.ReadingLoops.{mark_start, mark_next, mark_more, mark_end}
use Rattle.claim_reader.proofs.reading.Claim.mark_positions.Goals as goal

pub loop-i-init : goal.loop-i-init
loop-i-init c =
    rw (c.new-walk.ensures.0, c.new-walk.ensures.1, c.new-walk.ensures.2, c.new-walk.ensures.3) (refl, mark_start c.requires.0.2)

pub next-requires : goal.next-requires
next-requires c = c.loop-i.invariant.1.within

pub unwrap-position-requires : goal.unwrap-position-requires
unwrap-position-requires c = rw (c.next.ensures.0, (mark_next c.loop-i.invariant.1 c.loop-i-test.true).2) refl

pub put_mark-requires : goal.put_mark-requires
put_mark-requires c =
    let (next, was) = value_got _ (sym c.unwrap-position.ensures ∙ c.next.ensures.0) in
    let (kept, marking) = c.loop-i.invariant in
    omega (arith, (position_got _ _ _ _ _ _ _ was).below, marking.long, ap (λ claim. claim.w) kept)

pub loop-i-preserved : goal.loop-i-preserved
loop-i-preserved c =
    let (next, was) = value_got _ (sym c.unwrap-position.ensures ∙ c.next.ensures.0) in
    let (kept, marking) = c.loop-i.invariant in
    rw (c.next.ensures.1, was) (kept, mark_more marking c.loop-i-test.true was c.put_mark.ensures)

pub returns : goal.returns
returns c = let (kept, marking) = c.loop-i.invariant in rw (← kept) (mark_end marking c.loop-i-test.false)
