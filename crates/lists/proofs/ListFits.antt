-- What is known of a list that was read.
--     Good, list_good    each row fits its columns and is above the one before, and there are at most `most`
use mathlib.Core.Path.{◌≡◌, refl, sym, ap, subst}
use mathlib.Core.List.{List, [], ◌∷◌}
use mathlib.Core.Bool.{true}
use Prim.Native.Nat.{ℕ, zero, suc, ◌+◌, ◌≤◌}
use native.Mathlib.Omega.{arith}
use lib.ListN.{length}
use Rattle.numbers.specs.Reading.{got, field_at}
use Rattle.numbers.proofs.ReadingLaws.{parts}
use Rattle.numbers.proofs.FieldLaws.{field_got}
use Rattle.cells.specs.declared.columns.Column.{Column}
use Rattle.lists.specs.Order.{below}
use Rattle.lists.specs.Lists.{next_row, rows_at, list_at}
use Rattle.cells.proofs.RowFits.{RowFits, row_fits, pushed}
use Rattle.lists.proofs.ListLaws.{next_got}

-- each row fits its columns, and is above the one before
pub data Good (cs : List Column) : List ℕ → List (List ℕ) → Type 0 where
  last : {old : List ℕ} → Good cs old []
  more : {old r : List ℕ} {rs : List (List ℕ)} → RowFits cs r → below old r ≡ true → Good cs r rs → Good cs old (r ∷ rs)

rows_good : (k : ℕ) (old : List ℕ) (cs : List Column) (s : List ℕ) (at : ℕ) (rs : List (List ℕ)) (n : ℕ)
    → rows_at k old cs s at ≡ got rs n → Good cs old rs × (length rs ≡ k)
unfolding rows_at
rows_good zero old cs s at rs n e = let q : [] ≡ rs = cc in subst (λ (x : List (List ℕ)). Good cs old x × (length x ≡ 0)) q (last, refl)
rows_good (suc k) old cs s at rs n e =
    let p = parts (next_row old cs s at) _ rs n e in
    let q = pushed p.first (rows_at k p.first cs s p.place) rs n p.rest in
    let r = next_got old cs s at p.first p.place p.was in
    let g = rows_good k p.first cs s p.place q.rest n q.was in
    subst (λ (x : List (List ℕ)). Good cs old x × (length x ≡ suc k)) (sym q.whole)
    (more (row_fits cs s at p.first p.place r.0) r.1 g.0, ap suc g.1)

pub list_good : (most : ℕ) (cs : List Column) (s : List ℕ) (at : ℕ) (rs : List (List ℕ)) (n : ℕ)
    → list_at most cs s at ≡ got rs n → Good cs [] rs × (length rs ≤ most)
unfolding list_at
list_good most cs s at rs n e =
    let p = parts (field_at s at 0 (most + 1)) _ rs n e in
    let g = rows_good p.first [] cs s p.place rs n p.rest in
    (g.0, omega (arith, g.1, field_got s at 0 (most + 1) p.first p.place p.was))
