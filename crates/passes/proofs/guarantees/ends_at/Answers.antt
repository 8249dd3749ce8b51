-- The facts that end at a shared store stand side by side in their stretch.
use Rattle.passes.proofs.GuaranteeLaws.{next_some}
use Rattle.passes.proofs.guarantees.ends_at.Goals as goal

pub returns : goal.returns
returns c = rw (c.is_some.ensures, ← c.s.view_is) (next_some _ _ _ c.next_mark.result c.next_mark.ensures)
