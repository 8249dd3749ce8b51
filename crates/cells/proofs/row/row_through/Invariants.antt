-- The loop's invariant: the row's cells up to column i are read, and the rest stands where the reader does.
use Rattle.cells.proofs.RowLaws.{Filling}
use Rattle.cells.proofs.row.row_through.Given as goal

abbrev pub invariant-loop-i : goal.invariant-loop-i
invariant-loop-i l = Filling l.fn.columns l.initial.r l.cells l.r l.i
