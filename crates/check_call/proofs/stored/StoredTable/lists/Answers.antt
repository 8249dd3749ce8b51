-- The lent rows are the table's.
use Rattle.check_call.proofs.LentRows.{stored_rows}
use Rattle.check_call.proofs.stored.StoredTable.lists.Goals as goal

pub returns-clause-of_table : goal.returns-clause-of_table
returns-clause-of_table c = λ T s st. stored_rows st
