-- With those that are to come, the totals are those of all, which are not too large.
use mathlib.Core.Path.{◌≡◌, ap, ◌∙◌}
use native.Mathlib.Omega.{arith}
use lib.ListN.{length}
use Rattle.claim_reader.specs.ClaimFile.{bytes_of_all}
use Rattle.claim_reader.specs.Marks.{positions_in}
use Rattle.claim_reader.specs.Stages.{position_bytes}
use Rattle.claim_of_marks.proofs.DistanceLaws.{no_bytes, width_more, few, distances_count, all_bytes}
use Rattle.claim_of_marks.proofs.marked.MarkedFacts.totals.Goals as goal

pub loop-distance-init : goal.loop-distance-init
loop-distance-init c =
    let first = c.into_iter-distance-iterator.ensures.into_iter_gives ∙ c.new-distance-items.ensures in
    record { counted = omega (arith, ap length first); wide = omega (arith, ap (λ ns. length (bytes_of_all ns)) first) }

pub overflow_add-totals : goal.overflow_add-totals
overflow_add-totals c =
    let s = c.args.self.now in
    omega (arith, few s.w s.mem.now, s.few, ap length c.in-Some.ensures.steps.0)

pub overflow_add-totals-in-loop-distance : goal.overflow_add-totals-in-loop-distance
overflow_add-totals-in-loop-distance c =
    let s = c.args.self.now in
    omega (arith, few s.w s.mem.now, s.few, width_more c.in-Some.ensures.steps.0)

pub loop-distance-preserved : goal.loop-distance-preserved
loop-distance-preserved c =
    let taken = c.in-Some.ensures.steps.0 in
    record { counted = omega (arith, ap length taken); wide = omega (arith, width_more taken, c.width.ensures) }

pub returns : goal.returns
returns c =
    let ps = positions_in c.args.self.now.w c.args.self.now.mem.now in
    let none = c.in-None.ensures.steps.0 in
    let counted = rw (none, distances_count 0 ps) at c.loop-distance.invariant.counted in
    let wide = rw (none, no_bytes, ← (all_bytes 0 ps)) at c.loop-distance.invariant.wide in
    let count : c.loop-distance.totals.count ≡ length ps = omega arith in
    let width : c.loop-distance.totals.width ≡ length (position_bytes 0 ps) = omega arith in
    λ i. record { count = count i; width = width i }
