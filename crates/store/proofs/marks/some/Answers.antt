-- What is found says whether there is a mark among the first j places.
use Rattle.store.proofs.FoundLaws.{some_next}
use Rattle.store.proofs.marks.some.Goals as goal

pub loop-j-preserved : goal.loop-j-preserved
loop-j-preserved c = some_next _ _ _ _ c.loop-j.invariant
