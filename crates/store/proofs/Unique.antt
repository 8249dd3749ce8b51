-- Two results that a contract allows are equal: for each public function, of its contract as the prover reads it from the source (`Post`), with
-- every byte lent. Most contracts are equations for the answer or the memory. Those that are none come first: what a test answers, the next mark,
-- a memory whose first marks are taken off, and a list of rows, whose length is its type's.
use mathlib.Core.Path.{◌≡◌, refl, sym, ap, ap₂, ◌∙◌}
use mathlib.Core.Bool.{Bool, true, false}
use mathlib.Core.List.{List, ◌++◌}
use Prim.Native.Nat.{ℕ, ◌<◌}
use native.Mathlib.Decide.{dec_lt}
use native.Mathlib.Omega.{arith}
use lib.ListN.{length, take, drop, take-append-drop}
use lib.Seq.{ext_get_or}
use contract.Lifetimes.{Lfts}
use denote.Triple.Clauses.{AtExit}
use borrow.Fn.Kinds.{Dens, res_t, ended_of}
use Rattle.std.specs.Prelude.{Option, Some, None}
use Rattle.numbers.proofs.Unique.{same, Fixes}
use Rattle.model.proofs.Unique.{first_same}
use Rattle.store.specs.declared.rows.Row.{Row}
use Rattle.store.specs.Marking.{Is, NextMark}
use Rattle.store.specs.Clearing.{Cleared}
use Rattle.store.specs.Reading.{zero_row, nth, Unpacked}
use Rattle.store.proofs.marks.has.Reads as has
use Rattle.store.proofs.marks.has.Kinds as has-kinds
use Rattle.store.proofs.marks.some.Reads as some
use Rattle.store.proofs.marks.some.Kinds as some-kinds
use Rattle.store.proofs.marks.lacks.Reads as lacks
use Rattle.store.proofs.marks.lacks.Kinds as lacks-kinds
use Rattle.store.proofs.marks.next_mark.Reads as next-mark
use Rattle.store.proofs.marks.next_mark.Kinds as next-mark-kinds
use Rattle.store.proofs.marks.put_mark.Reads as put-mark
use Rattle.store.proofs.marks.put_mark.Kinds as put-mark-kinds
use Rattle.store.proofs.marks.clear.Reads as clear
use Rattle.store.proofs.marks.clear.Kinds as clear-kinds
use Rattle.store.proofs.marks.clear_first.Reads as clear_first
use Rattle.store.proofs.marks.clear_first.Kinds as clear-first-kinds
use Rattle.store.proofs.rows.cell.Reads as cell
use Rattle.store.proofs.rows.cell.Kinds as cell-kinds
use Rattle.store.proofs.rows.row_at.Reads as row_at
use Rattle.store.proofs.rows.row_at.Kinds as row-at-kinds
use Rattle.store.proofs.rows.step_rows.Reads as step-rows
use Rattle.store.proofs.rows.step_rows.Kinds as step-rows-kinds

-- ---- what is said other than by an equation

-- what has, some and lacks answer
pub is_unique : (A : Type 0) (r r' : Bool) → Is A r → Is A r' → r ≡ r'
is_unique A true true a b = refl
is_unique A true false a b = absurd (b a)
is_unique A false true a b = absurd (a b)
is_unique A false false a b = refl

pub next_unique : (m : List ℕ) (from w : ℕ) (o q : Option ℕ) → NextMark m from w o → NextMark m from w q → o ≡ q
next_unique m from w (Some p) (Some q) f g = ap Some (first_same f g)
next_unique m from w (Some p) None f none = absurd (none _ f.here)
next_unique m from w None (Some q) none g = absurd (none _ g.here)
next_unique m from w None None none none' = refl

-- a memory is one by its two parts
pub parts_same : (w : ℕ) {m m' : List ℕ} → take w m ≡ take w m' → drop w m ≡ drop w m' → m ≡ m'
parts_same w {m} {m'} e q = sym (take-append-drop w m) ∙ ap₂ (λ (x y : List ℕ). x ++ y) e q ∙ take-append-drop w m'

pub cleared_unique : {w : ℕ} {m m₁ m₂ : List ℕ} → Cleared w m m₁ → Cleared w m m₂ → m₁ ≡ m₂
cleared_unique {w} c c' = parts_same w (same c.zeros c'.zeros) (same c.rest c'.rest)

pub listed_unique : {bytes : List ℕ} {n : ℕ} {rows rows' : List Row} → length rows ≡ length rows' → Unpacked bytes n rows → Unpacked bytes n rows'
    → rows ≡ rows'
listed_unique {n} {rows} {rows'} long z z' = ext_get_or zero_row rows rows' long (λ k l. each k (dec_lt k n))
  where
    each : (k : ℕ) → Dec (k < n) → nth rows k ≡ nth rows' k
    each k (yes l) = same (z.read k l) (z'.read k l)
    each k (no l) = same (z.rest k (omega arith)) (z'.rest k (omega arith))

-- ---- the contracts as the prover reads them from the source

pub has_fixes : Fixes has-kinds.ps has-kinds.r has.Post
has_fixes κs a x x' s s' = is_unique _ x x'

pub some_fixes : Fixes some-kinds.ps some-kinds.r some.Post
some_fixes κs a x x' s s' = is_unique _ x x'

pub lacks_fixes : Fixes lacks-kinds.ps lacks-kinds.r lacks.Post
lacks_fixes κs a x x' s s' = is_unique _ x x'

pub next_mark_fixes : Fixes next-mark-kinds.ps next-mark-kinds.r next-mark.Post
next_mark_fixes κs a x x' s s' = next_unique _ _ _ x x'

pub cell_fixes : Fixes cell-kinds.ps cell-kinds.r cell.Post
cell_fixes κs a x x' s s' = same

pub row_at_fixes : Fixes row-at-kinds.ps row-at-kinds.r row_at.Post
row_at_fixes κs a x x' s s' = same

-- a list of rows is as long as its type says
pub step_rows_fixes : (κs : Lfts 1) (a : Dens κs step-rows-kinds.ps) (x x' : List Row)
    (s s' : AtExit (ended_of 1 step-rows-kinds.ps step-rows-kinds.r) κs)
    → length x ≡ 1024 → length x' ≡ 1024 → step-rows.Post κs a x s → step-rows.Post κs a x' s' → x ≡ x'
step_rows_fixes κs a x x' s s' l l' = listed_unique (same l l')

-- ---- and every byte of the memory

pub put_mark_fixes : (κs : Lfts 1) (a : Dens κs put-mark-kinds.ps) (x x' : (res_t put-mark-kinds.r κs).Denot)
    (s s' : AtExit (ended_of 1 put-mark-kinds.ps put-mark-kinds.r) κs)
    → put-mark.Post κs a x s → put-mark.Post κs a x' s' → s.0.now ≡ s'.0.now
put_mark_fixes κs a x x' s s' = same

pub clear_fixes : (κs : Lfts 1) (a : Dens κs clear-kinds.ps) (x x' : (res_t clear-kinds.r κs).Denot)
    (s s' : AtExit (ended_of 1 clear-kinds.ps clear-kinds.r) κs)
    → clear.Post κs a x s → clear.Post κs a x' s' → s.0.now ≡ s'.0.now
clear_fixes κs a x x' s s' = same

pub clear_first_fixes : (κs : Lfts 1) (a : Dens κs clear-first-kinds.ps) (x x' : (res_t clear-first-kinds.r κs).Denot)
    (s s' : AtExit (ended_of 1 clear-first-kinds.ps clear-first-kinds.r) κs)
    → clear_first.Post κs a x s → clear_first.Post κs a x' s' → s.0.now ≡ s'.0.now
clear_first_fixes κs a x x' s s' = cleared_unique
