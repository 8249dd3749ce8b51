-- The sizes of the header are the table's.
use mathlib.Core.Path.{◌∙◌}
use Rattle.check_call.proofs.LentRows.{stored_w}
use Rattle.check_call.proofs.stored.StoredTable.w.Goals as goal

pub returns-clause-of_table : goal.returns-clause-of_table
returns-clause-of_table c = λ T st. c.w_of.ensures ∙ stored_w st
