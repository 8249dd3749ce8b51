-- `claim_reader::reading::mark_claim` meets its contract: the memory is clear, and then the claim's positions are marked in it. A claim that reads
-- well has a count.
use native.Mathlib.Omega.{arith}
use mathlib.Core.Path.{refl, sym, ◌∙◌}
use Rattle.numbers.proofs.ReadingLaws.{part_got}
use Rattle.store.proofs.MarkLaws.{cleared_clear}
use Rattle.claim_reader.proofs.ClaimLaws.{claim_listed, claim_count}
use Rattle.claim_reader.proofs.ClaimMarks.{claim_marked}
use Rattle.claim_reader.proofs.reading.mark_claim.Goals as goal

pub unwrap-count-requires : goal.unwrap-count-requires
unwrap-count-requires c = rw (c.count.ensures, (claim_count c.requires.0).2) refl

pub mark_positions-requires : goal.mark_positions-requires
mark_positions-requires c =
    let count = part_got _ (sym c.unwrap-count.ensures ∙ c.count.ensures) in
    let is = c.requires.0 in
    ((is.positions, is.next, claim_listed is count), omega arith)

pub returns : goal.returns
returns c =
    let count = part_got _ (sym c.unwrap-count.ensures ∙ c.count.ensures) in
    let clear = cleared_clear _ (omega arith) c.clear_first.ensures in
    claim_marked _ c.requires.0 count clear (omega arith) c.mark_positions.ensures
