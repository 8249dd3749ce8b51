-- `lists::list::keep_row` meets its contract: since the row is found, so is each of its cells, and the five are kept one after the other.
use mathlib.Core.Path.{refl}
use native.Mathlib.Omega.{arith}
use Rattle.lists.proofs.RowKeeping.{mid_cell, mid_more, mid_long, mid_end}
use Rattle.lists.proofs.list.keep_row.Goals as goal

pub keep_cell-next-requires : goal.keep_cell-next-requires
keep_cell-next-requires c = (mid_cell c.loop-j.invariant c.loop-j-test.true, omega (arith, mid_long c.loop-j.invariant))

pub loop-j-preserved : goal.loop-j-preserved
loop-j-preserved c = mid_more c.loop-j.invariant c.loop-j-test.true refl c.keep_cell-next.ensures

pub returns : goal.returns
returns c = mid_end c.loop-j.invariant (omega arith)
