-- The byte is set to 1.
use mathlib.Core.Path.{refl}
use Rattle.store.specs.Marking.{marked}
use Rattle.store.proofs.marks.put_mark.Goals as goal

pub returns : goal.returns
unfolding marked
returns c = refl
