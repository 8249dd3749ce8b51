-- Lists of rows (document 01, "The table, in file order").
use Rattle.std.specs.Prelude.{ℕ, zero, suc, ◌+◌, List, [], ◌∷◌, ◌++◌}
use Rattle.numbers.specs.Reading.{Out, got, bad, then, pick, field_at}
use Rattle.numbers.specs.declared.refusals.Refusal.TheVariants as refusal
use Rattle.cells.specs.declared.columns.Column.{Column}
use Rattle.cells.specs.Rows.{push, row_at}
use Rattle.lists.specs.Order.{below}

-- the row at `at`, which is to be above the row before it, `old`: else 5, at the row's first byte
unfoldable pub next_row : List ℕ → List Column → List ℕ → ℕ → Out (List ℕ)
next_row old cs s at = then (row_at cs s at) λ r next. pick (below old r) (got r next) (bad (refusal.NotAbove at))

-- k rows, each above the one before, the first above `old`
unfoldable pub rows_at : ℕ → List ℕ → List Column → List ℕ → ℕ → Out (List (List ℕ))
rows_at zero old cs s at = got [] at
rows_at (suc k) old cs s at = then (next_row old cs s at) λ r next. push r (rows_at k r cs s next)

-- a list of rows: the count, 0 to `most`, then the rows, strictly ascending
unfoldable pub list_at : ℕ → List Column → List ℕ → ℕ → Out (List (List ℕ))
list_at most cs s at = then (field_at s at 0 (most + 1)) λ k next. rows_at k [] cs s next

-- the rows' cells, five to a row, one row after the other
abbrev pub flat : List (List ℕ) → List ℕ
flat [] = []
flat (r ∷ rs) = r ++ flat rs
