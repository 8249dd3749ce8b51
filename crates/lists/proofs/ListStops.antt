-- A list is refused where its first fault is: at its count (ListLaws.list-uncounted), or at a row, where those before it were read.
--     rows_refused        what refuses a row refuses the rows, those before it being read
--     list_row_refused    and the list
use mathlib.Core.Path.{◌≡◌, ap, ◌∙◌}
use mathlib.Core.List.{List, []}
use Prim.Native.Nat.{ℕ, zero, suc, ◌+◌, ◌<◌}
use native.Mathlib.Omega.{arith}
use Rattle.numbers.specs.declared.refusals.Refusal.{Refusal}
use Rattle.numbers.specs.Reading.{got, bad, field_at}
use Rattle.numbers.proofs.ReadingLaws.{parts}
use Rattle.cells.specs.declared.columns.Column.{Column}
use Rattle.cells.specs.Rows.{push, row_at}
use Rattle.cells.proofs.RowFits.{pushed}
use Rattle.lists.specs.Lists.{next_row, rows_at, list_at}
use Rattle.lists.proofs.ListLaws.{next_bad, rows_step, rows_stop, list_counted}

module _ (cs : List Column) (s : List ℕ) {x : Refusal} where
  -- i rows were read, and the next one is refused
  pub rows_refused : (i k : ℕ) (old : List ℕ) (at p : ℕ) {rs : List (List ℕ)} → rows_at i old cs s at ≡ got rs p → i < k → row_at cs s p ≡ bad x
      → rows_at k old cs s at ≡ bad x
  unfolding rows_at
  rows_refused i zero old at p e l b = absurd (omega arith)
  rows_refused zero (suc k) old at p e l b = let here : at ≡ p = cc in rows_stop k old cs s at (next_bad old cs s at (rw here b))
  rows_refused (suc i) (suc k) old at p {rs} e l b =
      let h = parts (next_row old cs s at) _ rs p e in
      let q = pushed h.first (rows_at i h.first cs s h.place) rs p h.rest in
      rows_step k old cs s at h.was ∙ ap (push h.first) (rows_refused i k h.first h.place p q.was (omega arith) b)

  pub list_row_refused : (most at i k n p : ℕ) {rs : List (List ℕ)} → field_at s at 0 (most + 1) ≡ got k n → rows_at i [] cs s n ≡ got rs p → i < k
      → row_at cs s p ≡ bad x → list_at most cs s at ≡ bad x
  list_row_refused most at i k n p e r l b = list_counted most cs s at e ∙ rows_refused i k [] n p r l b
