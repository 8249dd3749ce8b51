-- What is known of a table that was read.
--     table_got      its header and its four lists were read, one after the other, up to the end of the file
--     table_sound    every number is in its range, no list is too long, and rows ascend
--     four_numbers   four local stores are a list of their numbers
--     header_back    its header is the one that was read
--     cell_stands    cell j of row i stands at byte 5 * i + j of its list's memory
use mathlib.Core.Path.{◌≡◌, refl, sym, ap, ◌∙◌}
use mathlib.Core.List.{List, [], ◌∷◌, ◌++◌, map}
use mathlib.Core.Bool.{Bool, true, false}
use Prim.Native.Nat.{ℕ, zero, suc, ◌+◌, ◌*◌, ◌≤◌, ◌<◌}
use native.Mathlib.Omega.{arith}
use borrow.Author.Tests.{lt-ltb, ltb-false}
use lib.ListN.{length, get_or, take, drop, length-append, length-take, get_or-append}
use lib.Seq.{sets, sets-eq, get_or-append-add}
use lib.Dec.{ltb}
use Rattle.numbers.specs.declared.refusals.Refusal.TheVariants.{After}
use Rattle.numbers.specs.Reading.{got, bad, pick, version_at}
use Rattle.numbers.proofs.ReadingLaws.{never, parts}
use Rattle.cells.specs.declared.columns.Column.{Column}
use Rattle.files.specs.declared.header.Header.{Header}
use Rattle.files.specs.Table.{Table, Sound, StepFits, PushFits, PopFits, ErrorFits, step_cells, push_cells, pop_cells, error_cells}
use Rattle.files.specs.Table.{most_threads, most_shared, most_locals, most_frames, most_steps, most_pushes, most_pops, most_errors}
use Rattle.cells.specs.Columns.{of_thread, step_columns, push_columns, pop_columns, error_columns}
use Rattle.cells.specs.Rows.{row_at}
use Rattle.lists.specs.Lists.{list_at, flat}
use Rattle.files.specs.Header.{size_columns, place_columns, local_columns, sizes_of, four_of, header_of, header_at}
use Rattle.files.specs.File.{step_of, push_of, pop_of, error_of, table_of, table_at, header_in}
use Rattle.cells.proofs.RowFits.{CellFits, RowFits, cell, none, row_fits}
use Rattle.lists.proofs.ListFits.{Good, list_good}
use Rattle.files.proofs.RowKinds.{step_back, push_back, pop_back, error_back, no_thread, take_cell, rows_sound}

-- ---- a header that was read

pub record HeaderFits (h : Header) : Type 0 where
  pub threads : (1 ≤ h.sizes.threads) × (h.sizes.threads ≤ most_threads)
  pub shared : (1 ≤ h.sizes.shared) × (h.sizes.shared ≤ most_shared)
  pub locals : (1 ≤ h.sizes.locals) × (h.sizes.locals ≤ most_locals)
  pub frames : h.sizes.frames ≤ most_frames
  pub failed : h.failed ≤ h.sizes.locals
  pub start : h.start < h.sizes.shared
  pub four : length h.firsts ≡ 4
  pub firsts : (t : ℕ) → t < h.sizes.threads → get_or h.firsts t 0 < h.sizes.locals
  pub spare : (t : ℕ) → h.sizes.threads ≤ t → get_or h.firsts t 0 ≡ 0

-- the cell of a thread that is there is in its column's range
there : (n t : ℕ) (c : Column) (v : ℕ) → CellFits (of_thread n t c) v → t < n → CellFits c v
there n t c v f h = rw (lt-ltb t n h) at f

-- each of four threads' cells
four_fit : (n l a b c d : ℕ) → n ≤ 4
    → (0 < n → a < l) → (1 < n → b < l) → (2 < n → c < l) → (3 < n → d < l)
    → (t : ℕ) → t < n → get_or (a ∷ b ∷ c ∷ d ∷ []) t 0 < l
four_fit n l a b c d m fa fb fc fd zero h = fa h
four_fit n l a b c d m fa fb fc fd (suc zero) h = fb h
four_fit n l a b c d m fa fb fc fd (suc (suc zero)) h = fc h
four_fit n l a b c d m fa fb fc fd (suc (suc (suc zero))) h = fd h
four_fit n l a b c d m fa fb fc fd (suc (suc (suc (suc t)))) h = absurd (omega arith)

four_spare : (n a b c d : ℕ) → (n ≤ 0 → a ≡ 0) → (n ≤ 1 → b ≡ 0) → (n ≤ 2 → c ≡ 0) → (n ≤ 3 → d ≡ 0)
    → (t : ℕ) → n ≤ t → get_or (a ∷ b ∷ c ∷ d ∷ []) t 0 ≡ 0
four_spare n a b c d fa fb fc fd zero h = fa h
four_spare n a b c d fa fb fc fd (suc zero) h = fb h
four_spare n a b c d fa fb fc fd (suc (suc zero)) h = fc h
four_spare n a b c d fa fb fc fd (suc (suc (suc zero))) h = fd h
four_spare n a b c d fa fb fc fd (suc (suc (suc (suc t)))) h = refl

rows_fit : (z q ls : List ℕ) → RowFits size_columns z → RowFits (place_columns (sizes_of z)) q → RowFits (local_columns (sizes_of z)) ls
    → HeaderFits (header_of z q ls)
rows_fit z q ls (cell {v = n} fn (cell {v = g} fg (cell {v = l} fl (cell {v = f} ff (cell _ none)))))
    (cell fk (cell fs (cell _ (cell _ (cell _ none)))))
    (cell {v = a} fa (cell {v = b} fb (cell {v = c} fc (cell {v = d} fd (cell _ none))))) =
    record {
      threads = fn;
      shared = fg;
      locals = fl;
      frames = ff.1;
      failed = fk.1;
      start = fs;
      four = refl;
      firsts = four_fit n l a b c d fn.1 (there n 0 _ a fa) (there n 1 _ b fb) (there n 2 _ c fc) (there n 3 _ d fd);
      spare = four_spare n a b c d (no_thread n 0 _ a fa) (no_thread n 1 _ b fb) (no_thread n 2 _ c fc) (no_thread n 3 _ d fd);
    }

same_first : {A : Type 0} {x y : A} {n m : ℕ} → got x n ≡ got y m → x ≡ y
same_first e = cc

pub header_fits : (s : List ℕ) (h : Header) (p : ℕ) → header_at s ≡ got h p → HeaderFits h
unfolding header_at
header_fits s h p e =
    let v = parts (version_at s) _ h p e in
    let z = parts (row_at size_columns s v.place) _ h p v.rest in
    let q = parts (row_at (place_columns (sizes_of z.first)) s z.place) _ h p z.rest in
    let l = parts (row_at (local_columns (sizes_of z.first)) s q.place) _ h p q.rest in
    rw (sym (same_first l.rest))
    (rows_fit z.first q.first l.first (row_fits _ _ _ _ _ z.was) (row_fits _ _ _ _ _ q.was) (row_fits _ _ _ _ _ l.was))

-- ---- a table that was read

pub record TableGot (s : List ℕ) (T : Table) (next : ℕ) : Type 0 where
  pub header : Header
  pub steps : List (List ℕ)
  pub pushes : List (List ℕ)
  pub pops : List (List ℕ)
  pub errors : List (List ℕ)
  pub p₀ : ℕ
  pub p₁ : ℕ
  pub p₂ : ℕ
  pub p₃ : ℕ
  pub header_was : header_at s ≡ got header p₀
  pub steps_were : list_at most_steps (step_columns header.sizes) s p₀ ≡ got steps p₁
  pub pushes_were : list_at most_pushes (push_columns header.sizes) s p₁ ≡ got pushes p₂
  pub pops_were : list_at most_pops (pop_columns header.sizes) s p₂ ≡ got pops p₃
  pub errors_were : list_at most_errors (error_columns header.sizes) s p₃ ≡ got errors next
  pub ended : length s ≤ next
  pub is : T ≡ table_of header steps pushes pops errors

pub at_end_lem : {A : Type 0} (t : Bool) (a b : A) (p n l : ℕ) → ltb p l ≡ t → pick t (bad (After p)) (got a p) ≡ got b n → (a ≡ b) × (p ≡ n) × (l ≤ p)
at_end_lem true a b p n l t e = never (cc)
at_end_lem false a b p n l t e = (cc, cc, ltb-false p l t)

pub table_got : (s : List ℕ) (T : Table) (next : ℕ) → table_at s ≡ got T next → TableGot s T next
unfolding table_at
table_got s T next e =
    let h = parts (header_at s) _ T next e in
    let a = parts (list_at most_steps (step_columns h.first.sizes) s h.place) _ T next h.rest in
    let b = parts (list_at most_pushes (push_columns h.first.sizes) s a.place) _ T next a.rest in
    let c = parts (list_at most_pops (pop_columns h.first.sizes) s b.place) _ T next b.rest in
    let d = parts (list_at most_errors (error_columns h.first.sizes) s c.place) _ T next c.rest in
    let z = at_end_lem (ltb d.place (length s)) _ T d.place next (length s) refl d.rest in
    record {
      header = h.first;
      steps = a.first;
      pushes = b.first;
      pops = c.first;
      errors = d.first;
      p₀ = h.place;
      p₁ = a.place;
      p₂ = b.place;
      p₃ = c.place;
      header_was = h.was;
      steps_were = a.was;
      pushes_were = b.was;
      pops_were = c.was;
      errors_were = d.was ∙ rw z.1;
      ended = omega (arith, z.1, z.2);
      is = sym z.0;
    }

-- ---- it is sound

module _ (h : Header) (f : HeaderFits h) (A B C D : List (List ℕ)) where
  T : Table
  T = table_of h A B C D

  step_fits : (r : List ℕ) → RowFits (step_columns h.sizes) r → StepFits T (step_of r)
  unfolding T
  step_fits r (cell t (cell g (cell l (cell g' (cell l' none))))) = record { t = t; g = g; l = l; g' = g'; l' = l' }

  push_fits : (r : List ℕ) → RowFits (push_columns h.sizes) r → PushFits T (push_of r)
  unfolding T
  push_fits r (cell t (cell g (cell l (cell l' (cell f none))))) = record { t = t; g = g; l = l; l' = l'; f = f }

  pop_fits : (r : List ℕ) → RowFits (pop_columns h.sizes) r → PopFits T (pop_of r)
  unfolding T
  pop_fits r (cell t (cell g (cell l (cell f (cell l' none))))) = record { t = t; g = g; l = l; f = f; l' = l' }

  error_fits : (r : List ℕ) → RowFits (error_columns h.sizes) r → ErrorFits T (error_of h.sizes.threads r)
  unfolding T
  error_fits r (cell {v = g} fg (cell {v = a} fa (cell {v = b} fb (cell {v = c} fc (cell {v = d} fd none))))) =
      record {
        shared = fg.1;
        count = length-take n xs ∙ omega (arith, f.threads);
        locals = λ t i. rw (take_cell n t xs (λ j. absurd (omega arith))) (omega (arith, in_range t i));
      }
    where
      n : ℕ
      n = h.sizes.threads

      xs : List ℕ
      xs = a ∷ b ∷ c ∷ d ∷ []

      in_range : (t : ℕ) → t < n → get_or xs t 0 < suc h.sizes.locals
      in_range =
          four_fit n (suc h.sizes.locals) a b c d f.threads.1
          (λ i. omega (arith, there n 0 _ a fa i)) (λ i. omega (arith, there n 1 _ b fb i))
          (λ i. omega (arith, there n 2 _ c fc i)) (λ i. omega (arith, there n 3 _ d fd i))

  sound : Good (step_columns h.sizes) [] A × (length A ≤ most_steps) → Good (push_columns h.sizes) [] B × (length B ≤ most_pushes)
      → Good (pop_columns h.sizes) [] C × (length C ≤ most_pops) → Good (error_columns h.sizes) [] D × (length D ≤ most_errors) → Sound T
  unfolding T
  sound (a, ka) (b, kb) (c, kc) (d, kd) =
      record {
        n = f.threads;
        G = f.shared;
        L = f.locals;
        F = f.frames;
        failed = f.failed;
        g₀ = f.start;
        count = length-take h.sizes.threads h.firsts ∙ omega (arith, f.four, f.threads);
        locals = λ t i. rw (take_cell h.sizes.threads t h.firsts (f.spare t)) (f.firsts t i);
        steps = rows_sound step_of step_cells (step_columns h.sizes) (step_back h.sizes) (StepFits T) step_fits a ka;
        pushes = rows_sound push_of push_cells (push_columns h.sizes) (push_back h.sizes) (PushFits T) push_fits b kb;
        pops = rows_sound pop_of pop_cells (pop_columns h.sizes) (pop_back h.sizes) (PopFits T) pop_fits c kc;
        errors = rows_sound (error_of h.sizes.threads) error_cells (error_columns h.sizes) (error_back h.sizes) (ErrorFits T) error_fits d kd;
      }

pub table_sound : (s : List ℕ) (T : Table) (next : ℕ) → table_at s ≡ got T next → Sound T
unfolding T
table_sound s t next e =
    let g = table_got s t next e in
    rw g.is
    (sound g.header (header_fits s g.header g.p₀ g.header_was) g.steps g.pushes g.pops g.errors
    (list_good _ _ _ _ _ _ g.steps_were) (list_good _ _ _ _ _ _ g.pushes_were)
    (list_good _ _ _ _ _ _ g.pops_were) (list_good _ _ _ _ _ _ g.errors_were))

-- a list of four is its numbers
pub four_numbers : (xs : List ℕ) → length xs ≡ 4 → four_of xs ≡ xs
four_numbers [] e = absurd (omega arith)
four_numbers (a ∷ []) e = absurd (omega arith)
four_numbers (a ∷ b ∷ []) e = absurd (omega arith)
four_numbers (a ∷ b ∷ c ∷ []) e = absurd (omega arith)
four_numbers (a ∷ b ∷ c ∷ d ∷ []) e = refl
four_numbers (a ∷ b ∷ c ∷ d ∷ x ∷ xs) e = absurd (omega arith)

-- the table's header is the one that was read
four_back : (n : ℕ) (xs : List ℕ) → length xs ≡ 4 → ((t : ℕ) → n ≤ t → get_or xs t 0 ≡ 0) → four_of (take n xs) ≡ xs
four_back n [] h z = absurd (omega arith)
four_back n (_ ∷ []) h z = absurd (omega arith)
four_back n (_ ∷ _ ∷ []) h z = absurd (omega arith)
four_back n (_ ∷ _ ∷ _ ∷ []) h z = absurd (omega arith)
four_back n (a ∷ b ∷ c ∷ d ∷ []) h z =
    rw (take_cell n 0 xs (z 0), take_cell n 1 xs (z 1), take_cell n 2 xs (z 2), take_cell n 3 xs (z 3))
  where
    xs : List ℕ
    xs = a ∷ b ∷ c ∷ d ∷ []
four_back n (_ ∷ _ ∷ _ ∷ _ ∷ _ ∷ _) h z = absurd (omega arith)

pub header_back : (h : Header) → HeaderFits h → (A B C D : List (List ℕ)) → header_in (table_of h A B C D) ≡ h
header_back h f A B C D =
    ap (λ (x : List ℕ). record { sizes = h.sizes; failed = h.failed; start = h.start; firsts = x })
    (four_back h.sizes.threads h.firsts f.four f.spare)

-- ---- where a cell stands

module _ {A : Type 0} (cells : A → List ℕ) (five : (a : A) → length (cells a) ≡ 5) where
  pub flat_long : (rows : List A) → length (flat (map cells rows)) ≡ 5 * length rows
  flat_long [] = refl
  flat_long (r ∷ rows) = length-append (cells r) (flat (map cells rows)) ∙ omega (arith, five r, flat_long rows)

  flat_cell : (rows : List A) (d : A) (i j : ℕ) → i < length rows → j < 5
      → get_or (flat (map cells rows)) (5 * i + j) 0 ≡ get_or (cells (get_or rows i d)) j 0
  flat_cell [] d i j b c = absurd (omega arith)
  flat_cell (r ∷ rows) d zero j b c =
      let z : 5 * 0 + j ≡ j = omega arith in
      rw z (get_or-append (cells r) (flat (map cells rows)) 0 j (omega (arith, five r)))
  flat_cell (r ∷ rows) d (suc i) j b c =
      let z : 5 * suc i + j ≡ length (cells r) + (5 * i + j) = omega (arith, five r) in
      ap (λ (k : ℕ). get_or (cells r ++ flat (map cells rows)) k 0) z
      ∙ get_or-append-add (cells r) (flat (map cells rows)) (5 * i + j) 0
      ∙ flat_cell rows d i j (omega arith) c

  pub cell_stands : (rows : List A) (m : List ℕ) → 5 * length rows ≤ length m → (d : A) (i j : ℕ) → i < length rows → j < 5
      → get_or (sets m 0 (flat (map cells rows))) (5 * i + j) 0 ≡ get_or (cells (get_or rows i d)) j 0
  cell_stands rows m room d i j b c =
      ap (λ (x : List ℕ). get_or x (5 * i + j) 0) (sets-eq (flat (map cells rows)) m 0 (omega (arith, flat_long rows)))
      ∙ get_or-append (flat (map cells rows)) (drop (0 + length (flat (map cells rows))) m) 0 (5 * i + j) (omega (arith, flat_long rows))
      ∙ flat_cell rows d i j b c
