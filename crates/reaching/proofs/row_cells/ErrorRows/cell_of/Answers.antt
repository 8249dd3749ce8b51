-- Each return gives the cell that the definition gives.
use mathlib.Core.Path.{sym, ◌∙◌}
use native.Mathlib.Omega.{arith}
use Rattle.reaching.proofs.CellLaws.{own_cell, other_cell, file_cell}
use Rattle.reaching.proofs.row_cells.ErrorRows.cell_of.Goals as goal

pub returns-then-row-gt0 : goal.returns-then-row-gt0
returns-then-row-gt0 c =
    let s = c.args.self.now in
    c.cell.ensures ∙ sym (file_cell s.failed s.rows.now c.args.u c.args.t (omega arith))

pub returns-then-t-u : goal.returns-then-t-u
returns-then-t-u c = let s = c.args.self.now in sym (own_cell s.failed s.rows.now (omega arith) c.if-t-u.true)

pub returns-else-t-u : goal.returns-else-t-u
returns-else-t-u c = let s = c.args.self.now in sym (other_cell s.failed s.rows.now (omega arith) c.if-t-u.false)
