-- The lent error rows are the table's.
use Rattle.check_call.proofs.LentRows.{stored_errors}
use Rattle.check_call.proofs.stored.StoredTable.errors.Goals as goal

pub returns-clause-of_table : goal.returns-clause-of_table
returns-clause-of_table c = λ T s st plan. rw c.from.ensures (stored_errors st plan)
