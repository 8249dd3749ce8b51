-- `claim_reader::reading::Claim::positions` meets its contract: a turn reads the next position.
use mathlib.Core.Path.{refl, sym, ◌∙◌}
use Rattle.std.proofs.lemmas.Result.{err_from_is_err_and}
use Rattle.numbers.proofs.ReadingLaws.{value_got, value_bad}
use Rattle.claim_reader.proofs.ReadingLoops.{read_start, read_more, read_refused, read_end}
use Rattle.claim_reader.proofs.reading.Claim.positions.Goals as goal

pub loop-i-init : goal.loop-i-init
loop-i-init c = rw (c.new-walk.ensures.0, c.new-walk.ensures.1, c.new-walk.ensures.2, c.new-walk.ensures.3) (refl, read_start)

pub next-requires : goal.next-requires
next-requires c = c.loop-i.invariant.1.within

pub returns-in_err-next : goal.returns-in_err-next
returns-in_err-next c =
    let exit = err_from_is_err_and c.from_residual.result c.from_residual.ensures.1 in
    let (kept, read) = c.loop-i.invariant in
    rw (exit.1, exit.2, ← kept) (read_refused read c.loop-i-test.true (value_bad _ (sym c.in_err-next.was ∙ c.next.ensures.0)))

pub loop-i-preserved : goal.loop-i-preserved
loop-i-preserved c =
    let (next, was) = value_got _ (sym c.in_ok-next.was ∙ c.next.ensures.0) in
    let (kept, read) = c.loop-i.invariant in
    rw (c.next.ensures.1, was) (kept, read_more read c.loop-i-test.true was)

pub returns : goal.returns
returns c = let (kept, read) = c.loop-i.invariant in rw (← kept) (read_end read c.loop-i-test.false)
