-- Writing those that are to come writes all.
use Rattle.claim_reader.specs.ClaimFile.{distances_from}
use Rattle.claim_reader.specs.Marks.{positions_in}
use Rattle.claim_of_marks.proofs.WritingLoops.{Writing}
use Rattle.claim_of_marks.proofs.marked.MarkedFacts.put_positions.Given as goal

abbrev pub invariant-loop-distance : goal.invariant-loop-distance
invariant-loop-distance l =
    Writing (distances_from 0 (positions_in l.self.w l.self.mem.now)) l.at l.initial.space l.distance-iterator l.next l.space
