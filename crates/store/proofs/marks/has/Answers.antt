-- The byte is compared with 1.
use Rattle.store.proofs.MarkLaws.{has_test}
use Rattle.store.proofs.marks.has.Goals as goal

pub returns : goal.returns
returns c = has_test c.args.mem.now c.args.p
