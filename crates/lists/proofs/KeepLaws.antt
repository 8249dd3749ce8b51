-- The invariant of the loop that keeps a list that was found.
--     Keeping, keep-…    i rows stand in memory, five bytes a row, and the rest of the list stands from p on
-- Since the whole list is found, the row at p is its next row, and is found.
use mathlib.Core.Path.{◌≡◌, refl, sym, ap, ◌∙◌}
use mathlib.Core.List.{List, [], ◌∷◌, ◌++◌, append-nil, append_assoc}
use Prim.Native.Nat.{ℕ, ◌+◌, ◌*◌, ◌≤◌, ◌<◌}
use native.Mathlib.Omega.{arith}
use native.Mathlib.Nat.{zero-add}
use lib.ListN.{length, length-append}
use lib.Seq.{sets, length-sets}
use Rattle.numbers.specs.Reading.{got}
use Rattle.numbers.proofs.PutLaws.{sets_append}
use Rattle.cells.specs.declared.columns.Column.{Column}
use Rattle.cells.specs.Rows.{row_at}
use Rattle.cells.proofs.RowFits.{row_long}
use Rattle.lists.specs.Lists.{next_row, rows_at, flat}
use Rattle.lists.specs.Keeping.{Found, RowKept, list_held}
use Rattle.lists.proofs.ListLaws.{Listing, list_start, list_more, list_all, next_got, next_found}

flat_snoc : (rs : List (List ℕ)) (r : List ℕ) → flat (rs ++ (r ∷ [])) ≡ flat rs ++ r
flat_snoc [] r = append-nil r
flat_snoc (x ∷ rs) r = ap (λ (l : List ℕ). x ++ l) (flat_snoc rs r) ∙ sym (append_assoc x (flat rs) r)

pub record Keeping (count : ℕ) (cs : List Column) (s : List ℕ) (at : ℕ) (d₀ d : List ℕ) (p i : ℕ) : Type 0 where
  pub five : length cs ≡ 5
  pub done : List (List ℕ)
  pub old : List ℕ
  pub listing : Listing count cs s at done old p i
  pub held : d ≡ sets d₀ 0 (flat done)
  pub wide : length (flat done) ≡ 5 * i

module _ {count : ℕ} {cs : List Column} {s : List ℕ} {at : ℕ} {d₀ : List ℕ} where
  pub keep_start : length cs ≡ 5 → Keeping count cs s at d₀ d₀ at 0
  keep_start five = record { five = five; done = []; old = []; listing = list_start; held = refl; wide = refl }

  module _ {d : List ℕ} {p i : ℕ} (k : Keeping count cs s at d₀ d p i) where
    pub keep_long : length d ≡ length d₀
    keep_long = ap length k.held ∙ length-sets d₀ 0 (flat k.done)

    module _ (h : i < count) (w : Found (rows_at count [] cs s at)) where
      -- a row that is read is the next one
      is_next : {r : List ℕ} {n : ℕ} → row_at cs s p ≡ got r n → next_row k.old cs s p ≡ got r n
      is_next e =
          let (r', n', q) = next_found k.listing h w in
          q ∙ sym (next_got k.old cs s p r' n' q).0 ∙ e

      -- where the whole list is found, so is the row at p
      pub keep_found : Found (row_at cs s p)
      keep_found = let (r, n, q) = next_found k.listing h w in (r, n, (next_got k.old cs s p r n q).0)

      pub keep_more : {d' : List ℕ} {n : ℕ} → RowKept (row_at cs s p) (5 * i) d d' n → Keeping count cs s at d₀ d' n (i + 1)
      keep_more {d'} {n} row =
          let r = row.cells in
          let e : row_at cs s p ≡ got r n = row.was in
          let long : length r ≡ 5 = row_long cs s p r n e ∙ k.five in
          record {
            five = k.five;
            done = k.done ++ (r ∷ []);
            old = r;
            listing = list_more k.listing h (is_next e);
            held = row.held ∙ rw (flat_snoc k.done r, k.held, ← k.wide, ← sets_append (flat k.done) r d₀ 0, zero-add);
            wide = rw (flat_snoc k.done r, length-append) (omega (arith, k.wide));
          }

    pub keep_end : count ≤ i → d ≡ list_held (rows_at count [] cs s at) d₀
    keep_end h = rw (list_all k.listing h) k.held
