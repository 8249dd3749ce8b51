-- The first i rows are read, and rows of zeros stand after them.
use Rattle.std.proofs.Common.{rules}
use Rattle.store.proofs.RowLaws.{listed_none}
use Rattle.store.proofs.rows.step_rows.Goals as goal

pub loop-i-init : goal.loop-i-init
loop-i-init c = (search rules, listed_none 1024)
