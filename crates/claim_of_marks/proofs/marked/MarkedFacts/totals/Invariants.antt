-- With those that are to come, the totals are those of all.
use Rattle.std.proofs.Common.{◌≡◌, ◌+◌, length}
use Rattle.claim_reader.specs.ClaimFile.{distances_from, bytes_of_all}
use Rattle.claim_reader.specs.Marks.{positions_in}
use Rattle.claim_of_marks.proofs.marked.MarkedFacts.totals.Given as goal

abbrev pub invariant-loop-distance : goal.invariant-loop-distance
invariant-loop-distance l =
    let all = distances_from 0 (positions_in l.self.w l.self.mem.now) in
    record {
      counted : l.totals.count + length l.distance-iterator ≡ length all;
      wide : l.totals.width + length (bytes_of_all l.distance-iterator) ≡ length (bytes_of_all all);
    }
