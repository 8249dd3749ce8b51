-- The definition of a table's file computes: whoever evaluates it names `reads`, and nothing else, on the `unfolding` line.
use mathlib.Core.Path.{◌≡◌, refl}
use mathlib.Core.List.{List}
use Prim.Native.Nat.{ℕ}
use Rattle.numbers.specs.Reading.{Out, groups_at, number_at, field_at, version_at}
use Rattle.files.specs.Table.{Table}
use Rattle.lists.specs.Order.{below}
use Rattle.cells.specs.Rows.{cell_at, row_at}
use Rattle.lists.specs.Lists.{next_row, rows_at, list_at}
use Rattle.files.specs.Header.{header_at}
use Rattle.files.specs.File.{table_at}

-- the table of a file, ready to compute: the one name to unfold
unfoldable pub reads : List ℕ → Out Table
unfolding table_at header_at version_at field_at number_at groups_at cell_at row_at below next_row rows_at list_at
reads s = table_at s

pub reads_is : (s : List ℕ) → reads s ≡ table_at s
unfolding reads
reads_is s = refl
