-- Of a file that is cut past as many bytes as a table may take, the table reader gives what it gives of the whole, refusals with their places too.
--     table_reach                   how many bytes that is: 32,081
--     header_looks, table_looks    reading the header and the table looks no further
--     table_cut                    so a file may be cut there
use mathlib.Core.Path.{◌≡◌}
use mathlib.Core.List.{List}
use Prim.Native.Nat.{ℕ, ◌+◌, ◌*◌, ◌≤◌}
use lib.ListN.{take}
use Rattle.numbers.proofs.Looks.{Looks, looks_then, looks_got, version_looks}
use Rattle.reader.proofs.EndLaws.{end_looks}
use Rattle.cells.specs.Columns.{step_columns, push_columns, pop_columns, error_columns}
use Rattle.cells.proofs.RowLooks.{row_looks}
use Rattle.lists.proofs.ListLooks.{list_looks}
use Rattle.files.specs.Table.{most_steps, most_pushes, most_pops, most_errors}
use Rattle.files.specs.Header.{size_columns, place_columns, local_columns, sizes_of, header_of, header_at}
use Rattle.files.specs.File.{table_of, table_at}

-- Four bytes for each number: the version and the 15 columns of the header, a count for each list, and five numbers for each row. One byte more tells
-- whether the file ends.
abbrev pub table_reach : ℕ
table_reach = 4 * (16 + 4 + 5 * (most_steps + most_pushes + most_pops + most_errors)) + 1

header_looks : Looks 64 (λ s at. header_at s)
unfolding header_at
header_looks =
    looks_then version_looks λ _ _ _ _ _.
    looks_then (row_looks size_columns) λ _ _ z _ _.
    looks_then (row_looks (place_columns (sizes_of z))) λ _ _ q _ _.
    looks_then (row_looks (local_columns (sizes_of z))) λ _ _ ls _ _.
    looks_got (header_of z q ls)

table_looks : Looks table_reach (λ s at. table_at s)
unfolding table_at
table_looks =
    looks_then header_looks λ _ _ h _ _.
    looks_then (list_looks (step_columns h.sizes) most_steps) λ _ _ steps _ _.
    looks_then (list_looks (push_columns h.sizes) most_pushes) λ _ _ pushes _ _.
    looks_then (list_looks (pop_columns h.sizes) most_pops) λ _ _ pops _ _.
    looks_then (list_looks (error_columns h.sizes) most_errors) λ _ _ errors _ _.
    end_looks (table_of h steps pushes pops errors)

pub table_cut : (s : List ℕ) (k : ℕ) → table_reach ≤ k → table_at (take k s) ≡ table_at s
table_cut s k h = table_looks.same s k 0 h
