-- What is found says whether one of the first j places has a mark that its partner has not.
use Rattle.store.proofs.FoundLaws.{lacks_next}
use Rattle.store.proofs.marks.lacks.Goals as goal

pub loop-j-preserved : goal.loop-j-preserved
loop-j-preserved c = lacks_next _ _ _ _ _ c.loop-j.invariant
