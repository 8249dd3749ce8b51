-- Each position is still to come.
use Rattle.claim_of_marks.proofs.DistanceLaws.{all_to_come}
use Rattle.claim_of_marks.proofs.distances.Distances.new.Goals as goal

pub returns : goal.returns
returns c = all_to_come c.args.marked.w c.args.marked.mem.now
