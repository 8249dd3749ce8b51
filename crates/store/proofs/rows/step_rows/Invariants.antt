-- The first i rows are read, and rows of zeros stand after them.
use mathlib.Core.Path.{◌≡◌}
use lib.ListN.{length}
use Rattle.store.specs.Reading.{Unpacked}
use Rattle.store.proofs.rows.step_rows.Given as goal

abbrev pub invariant-loop-i : goal.invariant-loop-i
invariant-loop-i l = (length l.rows ≡ 1024) × Unpacked l.steps l.i l.rows
