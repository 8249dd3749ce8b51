-- `lists::list::keep_rows` meets its contract: a turn keeps the next row.
use native.Mathlib.Omega.{arith}
use Rattle.std.proofs.Common.{rules}
use Rattle.lists.proofs.KeepLaws.{keep_start, keep_long, keep_found, keep_more, keep_end}
use Rattle.lists.proofs.list.keep_rows.Goals as goal

pub loop-i-init : goal.loop-i-init
loop-i-init c = keep_start (search rules)

pub keep_row-next-requires : goal.keep_row-next-requires
keep_row-next-requires c =
    (keep_found c.loop-i.invariant c.loop-i-test.true c.requires.0, omega (arith, keep_long c.loop-i.invariant))

pub loop-i-preserved : goal.loop-i-preserved
loop-i-preserved c =
    keep_more c.loop-i.invariant c.loop-i-test.true c.requires.0 c.keep_row-next.ensures

pub returns : goal.returns
returns c = keep_end c.loop-i.invariant c.loop-i-test.false
