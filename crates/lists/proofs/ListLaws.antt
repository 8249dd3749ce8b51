-- Laws of the next row and of a list of rows, and the invariant of the loop that finds one.
--     next_yes, _no, _bad, _first    what `next_row` gives, one law for each way that it goes
--     next_got                       what is known of a next row that was read
--     rows_none, _step, _stop        what `rows_at` gives, by its first row
--     list_counted, _uncounted       what `list_at` gives, by its count
--     Listing, list-…, next_found    i rows are read, and the rest of the list stands from p on
--     Finding, find-…                the same in the loop that finds a list
--     list_found, list_refused       what the code's answer tells of a list
use mathlib.Core.Path.{◌≡◌, refl, ap, ◌∙◌}
use mathlib.Core.List.{List, [], ◌∷◌, ◌++◌, append-nil}
use mathlib.Core.Bool.{Bool, true, false}
use Prim.Native.Nat.{ℕ, zero, suc, ◌+◌, ◌-◌, ◌≤◌, ◌<◌}
use native.Mathlib.Omega.{arith}
use native.Mathlib.Nat.{sub-zero}
use Rattle.std.specs.Prelude.{Option, Some, None, Ok, Err}
use lib.ListN.{length, length-append}
use Rattle.numbers.specs.declared.refusals.Refusal.{Refusal}
use Rattle.numbers.specs.declared.refusals.Refusal.TheVariants.{NotAbove}
use Rattle.numbers.specs.declared.reading.Part.{Part}
use Rattle.numbers.specs.Reading.{Out, got, bad, part, pick, field_at}
use Rattle.numbers.proofs.ReadingLaws.{never, parts}
use Rattle.cells.specs.declared.columns.Column.{Column}
use Rattle.reader.specs.Ends.{end_of}
use Rattle.lists.specs.Order.{below}
use Rattle.cells.specs.Rows.{push, row_at}
use Rattle.lists.specs.Lists.{next_row, rows_at, list_at}
use Rattle.lists.specs.ListAnswers.{list_of}
use Rattle.lists.specs.Keeping.{Found}
use Rattle.lists.specs.Stages.{old_of}
use Rattle.cells.proofs.RowLaws.{onward, onward_none, onward_push}
use Rattle.cells.proofs.RowFits.{row_long, pushed}

-- ---- the next row

module _ (old : List ℕ) (cs : List Column) (s : List ℕ) (at : ℕ) where
  pub next_yes : {r : List ℕ} {n : ℕ} → row_at cs s at ≡ got r n → below old r ≡ true → next_row old cs s at ≡ got r n
  unfolding next_row
  next_yes e h = rw e (rw h)

  pub next_no : {r : List ℕ} {n : ℕ} → row_at cs s at ≡ got r n → below old r ≡ false → next_row old cs s at ≡ bad (NotAbove at)
  unfolding next_row
  next_no e h = rw e (rw h)

  pub next_bad : {x : Refusal} → row_at cs s at ≡ bad x → next_row old cs s at ≡ bad x
  unfolding next_row
  next_bad e = rw e

  taken : (t : Bool) (r l : List ℕ) (m n : ℕ) → below old r ≡ t → pick t (got r m) (bad (NotAbove at)) ≡ got l n
      → (got r m ≡ got l n) × (below old l ≡ true)
  taken true r l m n b e = let q : r ≡ l = cc in (e, rw q at b)
  taken false r l m n b e = never (cc)

  -- a next row that was read is a row, and above the one before
  pub next_got : (r : List ℕ) (n : ℕ) → next_row old cs s at ≡ got r n → (row_at cs s at ≡ got r n) × (below old r ≡ true)
  unfolding next_row
  next_got r n e =
      let p = parts (row_at cs s at) _ r n e in
      let q = taken (below old p.first) p.first r p.place n refl p.rest in
      (p.was ∙ q.0, q.1)

below_none : (r : List ℕ) → length r ≡ 5 → below [] r ≡ true
unfolding below
below_none [] e = absurd (omega arith)
below_none (x ∷ r) e = refl

-- a row with none before it is a next row
pub next_first : (cs : List Column) (s : List ℕ) (at : ℕ) {r : List ℕ} {n : ℕ} → length cs ≡ 5 → row_at cs s at ≡ got r n → next_row [] cs s at ≡ got r n
next_first cs s at {r} {n} five e = next_yes [] cs s at e (below_none r (row_long cs s at r n e ∙ five))

-- ---- the loop over the rows

module _ (k : ℕ) (old : List ℕ) (cs : List Column) (s : List ℕ) (at : ℕ) where
  pub rows_step : {r : List ℕ} {n : ℕ} → next_row old cs s at ≡ got r n → rows_at (suc k) old cs s at ≡ push r (rows_at k r cs s n)
  unfolding rows_at
  rows_step e = rw e

  pub rows_stop : {x : Refusal} → next_row old cs s at ≡ bad x → rows_at (suc k) old cs s at ≡ bad x
  unfolding rows_at
  rows_stop e = rw e

  rows_first : Found (rows_at (suc k) old cs s at) → (r : List ℕ) × (n : ℕ) × (next_row old cs s at ≡ got r n)
  unfolding rows_at
  rows_first (rs, m, e) = let p = parts (next_row old cs s at) _ rs m e in (p.first, p.place, p.was)

pub rows_none : (old : List ℕ) (cs : List Column) (s : List ℕ) (at : ℕ) → rows_at 0 old cs s at ≡ got [] at
unfolding rows_at
rows_none old cs s at = refl

-- what is in front of a list that was found takes nothing from it
onward_found : (xs : List (List ℕ)) (o : Out (List (List ℕ))) → Found (onward xs o) → Found o
onward_found xs (got ys n) f = (ys, n, refl)
onward_found xs (bad r) (rs, m, e) = never (cc)

-- the rows `done` are read, and the rest of the list stands from p on, after the row `old`
pub record Listing (count : ℕ) (cs : List Column) (s : List ℕ) (at : ℕ) (done : List (List ℕ)) (old : List ℕ) (p i : ℕ) : Type 0 where
  pub many : length done ≡ i
  pub up : i ≤ count
  pub same : rows_at count [] cs s at ≡ onward done (rows_at (count - i) old cs s p)

module _ {count : ℕ} {cs : List Column} {s : List ℕ} {at : ℕ} where
  pub list_start : Listing count cs s at [] [] at 0
  list_start = record { many = refl; up = omega arith; same = rw (sub-zero count) (onward_none (rows_at count [] cs s at)) }

  module _ {done : List (List ℕ)} {old : List ℕ} {p i : ℕ} (f : Listing count cs s at done old p i) where
    module _ (h : i < count) where
      left : count - i ≡ suc (count - (i + 1))
      left = omega arith

      pub list_more : {r : List ℕ} {n : ℕ} → next_row old cs s p ≡ got r n → Listing count cs s at (done ++ (r ∷ [])) r n (i + 1)
      list_more {r} {n} e =
          record {
            many = length-append done (r ∷ []) ∙ ap (λ (m : ℕ). m + 1) f.many;
            up = omega arith;
            same = f.same ∙ rw (left, rows_step (count - (i + 1)) old cs s p e) (onward_push done r (rows_at (count - (i + 1)) r cs s n));
          }

      list_stop : {x : Refusal} → next_row old cs s p ≡ bad x → rows_at count [] cs s at ≡ bad x
      list_stop e = f.same ∙ rw (left, rows_stop (count - (i + 1)) old cs s p e)

      -- where the whole list is found, so is its next row
      pub next_found : Found (rows_at count [] cs s at) → (r : List ℕ) × (n : ℕ) × (next_row old cs s p ≡ got r n)
      next_found w =
          let rest : Found (rows_at (count - i) old cs s p) = onward_found done _ (rw f.same at w) in
          rows_first (count - (i + 1)) old cs s p (rw left at rest)

    pub list_all : count ≤ i → rows_at count [] cs s at ≡ got done p
    list_all h =
        let none : count - i ≡ 0 = omega arith in
        f.same ∙ rw (none, rows_none, append-nil)

-- ---- the loop that finds a list

pub record Finding (count : ℕ) (cs : List Column) (s : List ℕ) (at : ℕ) (before : Option (List ℕ)) (p i : ℕ) : Type 0 where
  pub done : List (List ℕ)
  pub listing : Listing count cs s at done (old_of before) p i

module _ {count : ℕ} {cs : List Column} {s : List ℕ} {at : ℕ} where
  pub find_start : Finding count cs s at None at 0
  find_start = record { done = []; listing = list_start }

  module _ {before : Option (List ℕ)} {p i : ℕ} (f : Finding count cs s at before p i) where
    pub find_more : i < count → {r : List ℕ} {n : ℕ} → next_row (old_of before) cs s p ≡ got r n → Finding count cs s at (Some r) n (i + 1)
    find_more h {r} e = record { done = f.done ++ (r ∷ []); listing = list_more f.listing h e }

    pub find_bad : i < count → {x : Refusal} → next_row (old_of before) cs s p ≡ bad x → rows_at count [] cs s at ≡ bad x
    find_bad h e = list_stop f.listing h e

    pub find_end : count ≤ i → Ok p ≡ end_of (rows_at count [] cs s at)
    find_end h = rw (list_all f.listing h)

-- ---- the count

pub rows_long : (k : ℕ) (old : List ℕ) (cs : List Column) (s : List ℕ) (at : ℕ) (rs : List (List ℕ)) (n : ℕ) → rows_at k old cs s at ≡ got rs n → length rs ≡ k
unfolding rows_at
rows_long zero old cs s at rs n e = let none : [] ≡ rs = cc in rw (← none)
rows_long (suc k) old cs s at rs n e =
    let p = parts (next_row old cs s at) _ rs n e in
    let q = pushed p.first (rows_at k p.first cs s p.place) rs n p.rest in
    rw q.whole (ap suc (rows_long k p.first cs s p.place q.rest n q.was))

module _ (most : ℕ) (cs : List Column) (s : List ℕ) (at : ℕ) where
  pub list_counted : {k n : ℕ} → field_at s at 0 (most + 1) ≡ got k n → list_at most cs s at ≡ rows_at k [] cs s n
  unfolding list_at
  list_counted e = rw e

  pub list_uncounted : {x : Refusal} → field_at s at 0 (most + 1) ≡ bad x → list_at most cs s at ≡ bad x
  unfolding list_at
  list_uncounted e = rw e

-- ---- what the code's answer tells of a list that was found

pub list_found : (o : Out (List (List ℕ))) {p : Part ℕ} → Ok p ≡ list_of o → (rs : List (List ℕ)) × (o ≡ got rs p.next) × (length rs ≡ p.value)
list_found (got rs n) {p} e = let same : p ≡ part (length rs) n = cc in (rs, rw same, rw same)
list_found (bad x) e = never (cc)

pub list_refused : (o : Out (List (List ℕ))) {x : Refusal} → Err x ≡ list_of o → o ≡ bad x
list_refused (got rs n) e = never (cc)
list_refused (bad y) {x} e = let same : y ≡ x = cc in rw same
