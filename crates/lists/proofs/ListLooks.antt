-- How far reading a list looks: four bytes for its count, and four for each column of each row that it may have.
use mathlib.Core.List.{List, []}
use Prim.Native.Nat.{ℕ, zero, suc, ◌+◌, ◌*◌}
use native.Mathlib.Nat.{mul-le-mul_right}
use native.Mathlib.Omega.{arith}
use lib.ListN.{length}
use Rattle.numbers.specs.declared.refusals.Refusal.TheVariants.{NotAbove}
use Rattle.numbers.proofs.FieldLaws.{field_got}
use Rattle.numbers.proofs.Looks.{Looks, looks_then, looks_got, looks_bad, looks_pick, looks_more, field_looks}
use Rattle.cells.specs.declared.columns.Column.{Column}
use Rattle.cells.proofs.RowLooks.{looks_push, row_looks}
use Rattle.lists.specs.Order.{below}
use Rattle.lists.specs.Lists.{next_row, rows_at, list_at}

module _ (cs : List Column) where
  next_looks : (old : List ℕ) → Looks (4 * length cs) (next_row old cs)
  unfolding next_row
  next_looks old =
      looks_more (omega arith)
      (looks_then (row_looks cs) (λ s at r n e. looks_pick (below old r) (looks_got r) (looks_bad (NotAbove at))))

  rows_looks : (k : ℕ) (old : List ℕ) → Looks (k * (4 * length cs)) (rows_at k old cs)
  unfolding rows_at
  rows_looks zero old = looks_more (omega arith) (looks_got [])
  rows_looks (suc k) old = looks_more (omega arith) (looks_then (next_looks old) (λ s at r n e. looks_push r (rows_looks k r)))

  pub list_looks : (most : ℕ) → Looks (4 + most * (4 * length cs)) (list_at most cs)
  unfolding list_at
  list_looks most =
      looks_then (field_looks 0 (most + 1)) λ s at k n e.
      looks_more (mul-le-mul_right (4 * length cs) (omega (arith, field_got s at 0 (most + 1) k n e))) (rows_looks k [])
