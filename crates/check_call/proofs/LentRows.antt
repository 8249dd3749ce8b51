-- The rows that the table reader leaves in memory are the table's: what the engine and the verdict ask of their lent rows.
--     rows_same                      the rows of a list in memory are the list's
--     stored_rows                    so the lent rows are the table's
--     stored_begins                  and so are the header's initial stores
--     stored_errors                  and the error rows
--     stored_w, stored_plan, …    and the sizes
use mathlib.Core.Path.{◌≡◌, refl, sym, ap, subst⁻¹, ◌∙◌}
use mathlib.Core.List.{List, [], ◌∷◌, map, Memᴰ}
use Prim.Native.Nat.{ℕ, zero, suc, ◌+◌, ◌*◌, ◌≤◌, ◌<◌}
use native.Mathlib.Omega.{arith}
use lib.ListN.{length, get_or}
use lib.Seq.{sets, length-sets}
use Rattle.files.specs.declared.header.Header.{Header}
use Rattle.files.specs.declared.table.Counts.{Counts}
use Rattle.files.specs.Table.{Table, Rows, step_cells, push_cells, pop_cells, error_cells, w_of, W}
use Rattle.files.specs.Header.{four_of}
use Rattle.lists.specs.Lists.{flat}
use Rattle.files.proofs.TableLaws.{cell_stands}
use Rattle.store.specs.declared.rows.Row.{Row}
use Rattle.store.specs.declared.rows.RowCounts.{RowCounts}
use Rattle.store.specs.Reading.{row_of, as_step, as_push, as_pop, Same, Reads}
use Rattle.positions.specs.Plans.{Plan, sized, plan_of}
use Rattle.engine.specs.Given.{RowsOf, StartOf}
use Rattle.verdict.specs.ErrorRows.{ErrorsOf}
use Rattle.check_call.specs.Lent.{Laid, Stored}

-- ---- members by their number

nth_member : {A : Type 0} (d : A) (l : List A) (i : ℕ) → i < length l → Memᴰ (get_or l i d) l
nth_member d [] i h = absurd (omega arith)
nth_member d (x ∷ l) zero h = Memᴰ.head refl
nth_member d (x ∷ l) (suc i) h = Memᴰ.tail (nth_member d l i (omega arith))

member_nth : {A : Type 0} (d : A) {a : A} {l : List A} → Memᴰ a l → (i : ℕ) × (i < length l) × (get_or l i d ≡ a)
member_nth d (Memᴰ.head e) = (0, omega arith, sym e)
member_nth d (Memᴰ.tail m) = let (i, h, e) = member_nth d m in (suc i, omega arith, e)

-- ---- the rows of a list

-- five cells as a row
abbrev row_by : List ℕ → Row
row_by r = record { t = get_or r 0 0; g = get_or r 1 0; l = get_or r 2 0; u = get_or r 3 0; v = get_or r 4 0 }

module _ {A : Type 0} (of : Row → A) (cells : A → List ℕ) (five : (a : A) → length (cells a) ≡ 5) (back : (a : A) → of (row_by (cells a)) ≡ a)
    (rows : List A) (m : List ℕ) (room : 5 * length rows ≤ length m) where
  abbrev mem : List ℕ
  mem = sets m 0 (flat (map cells rows))

  -- a byte of a row in memory is a cell of the list's row
  byte_stands : (d : A) (i j : ℕ) → i < length rows → j < 5 → get_or mem (i * 5 + j) 0 ≡ get_or (cells (get_or rows i d)) j 0
  byte_stands d i j h k =
      let e : i * 5 + j ≡ 5 * i + j = omega arith in
      rw e (cell_stands cells five rows m room d i j h k)

  row_stands : (d : A) (i : ℕ) → i < length rows → row_of mem i ≡ row_by (cells (get_or rows i d))
  row_stands d i h =
      let z : i * 5 ≡ i * 5 + 0 = omega arith in
      let e₀ : get_or mem (i * 5) 0 ≡ get_or (cells (get_or rows i d)) 0 0 = ap (λ (k : ℕ). get_or mem k 0) z ∙ byte_stands d i 0 h (omega arith) in
      let e₁ = byte_stands d i 1 h (omega arith) in
      let e₂ = byte_stands d i 2 h (omega arith) in
      let e₃ = byte_stands d i 3 h (omega arith) in
      let e₄ = byte_stands d i 4 h (omega arith) in
      λ x. record { t = e₀ x; g = e₁ x; l = e₂ x; u = e₃ x; v = e₄ x }

  nth_row : (d : A) (i : ℕ) → i < length rows → of (row_of mem i) ≡ get_or rows i d
  nth_row d i h = ap of (row_stands d i h) ∙ back (get_or rows i d)

  -- the first rows of the memory are the list's
  pub rows_same : A → Same of mem (length rows) rows
  rows_same d =
      record {
        to = λ i h. subst⁻¹ (λ (a : A). Memᴰ a rows) (nth_row d i h) (nth_member d rows i h);
        fro = λ a k. let (i, h, e) = member_nth d k in record { i = i; lt = h; here = nth_row d i h ∙ e };
      }

-- a list whose rows are laid out, no more than its limit
laid_same : {A : Type 0} (of : Row → A) (cells : A → List ℕ) (five : (a : A) → length (cells a) ≡ 5) (back : (a : A) → of (row_by (cells a)) ≡ a)
    {Fits : A → Type 0} {most : ℕ} {rows : List A} {m : List ℕ} {n : ℕ} → A
    → Rows most Fits cells rows → Laid most (flat (map cells rows)) m → n ≡ length rows → Same of m n rows
laid_same of cells five back {rows} d r l e =
    rw (l.is, e) (rows_same of cells five back rows l.before (omega (arith, r.count, l.room)) d)

-- how long such a memory is
laid_long : {A : Type 0} {cells : A → List ℕ} {Fits : A → Type 0} {most : ℕ} {rows : List A} {m : List ℕ} {n : ℕ}
    → Rows most Fits cells rows → Laid most (flat (map cells rows)) m → n ≡ length rows → n * 5 ≤ length m
laid_long {cells} {rows} r l e = omega (arith, r.count, l.room, ap length l.is, length-sets l.before 0 (flat (map cells rows)))

-- ---- the rows of a table

module _ {T : Table} {h : Header} {k : Counts} {st pu po er : List ℕ} (s : Stored T h k st pu po er) where
  abbrev counts : RowCounts
  counts = record { steps = k.steps; pushes = k.pushes; pops = k.pops }

  reads : Reads T counts st pu po
  reads =
      record {
        steps =
            laid_same as_step step_cells (λ a. refl) (λ a. refl) (record { t = 0; g = 0; l = 0; g' = 0; l' = 0 }) s.sound.steps s.steps
            (ap (λ (x : Counts). x.steps) s.counts);
        pushes =
            laid_same as_push push_cells (λ a. refl) (λ a. refl) (record { t = 0; g = 0; l = 0; l' = 0; f = 0 }) s.sound.pushes s.pushes
            (ap (λ (x : Counts). x.pushes) s.counts);
        pops =
            laid_same as_pop pop_cells (λ a. refl) (λ a. refl) (record { t = 0; g = 0; l = 0; f = 0; l' = 0 }) s.sound.pops s.pops
            (ap (λ (x : Counts). x.pops) s.counts);
      }

  pub stored_rows : {p : Plan} → p ≡ plan_of T → RowsOf T p counts st pu po
  stored_rows e =
      record {
        sound = s.sound;
        plan = e;
        reads = reads;
        count = ap (λ (x : Counts). x.steps) s.counts;
        long = (
          laid_long s.sound.steps s.steps (ap (λ (x : Counts). x.steps) s.counts),
          laid_long s.sound.pushes s.pushes (ap (λ (x : Counts). x.pushes) s.counts),
          laid_long s.sound.pops s.pops (ap (λ (x : Counts). x.pops) s.counts),
        );
      }

  -- the error rows, and the failed store
  pub stored_errors : {p : Plan} → p ≡ plan_of T → ErrorsOf T p h.failed er k.errors
  stored_errors e =
      record {
        sound = s.sound;
        plan = e;
        fails = ap (λ (x : Header). x.failed) s.header;
        count = ap (λ (x : Counts). x.errors) s.counts;
        cells = λ d i j b c.
            rw s.errors.is
            (cell_stands error_cells (λ a. refl) T.errors s.errors.before (omega (arith, s.sound.errors.count, s.errors.room)) d i j b c);
      }

-- ---- the initial local stores

four_same : (ls : List ℕ) (t : ℕ) → t < 4 → get_or (four_of ls) t 0 ≡ get_or ls t 0
four_same ls zero h = refl
four_same ls (suc zero) h = refl
four_same ls (suc (suc zero)) h = refl
four_same ls (suc (suc (suc zero))) h = refl
four_same ls (suc (suc (suc (suc t)))) h = absurd (omega arith)

module _ {T : Table} {h : Header} {k : Counts} {st pu po er : List ℕ} (s : Stored T h k st pu po er) where
  first_local : (t : ℕ) → t < T.n → get_or h.firsts t 0 ≡ get_or T.locals t 0
  first_local t i = ap (λ (x : Header). get_or x.firsts t 0) s.header ∙ four_same T.locals t (omega (arith, s.sound.n.1))

  start : h.start ≡ T.g₀
  start = ap (λ (x : Header). x.start) s.header

  -- g is the header's initial shared store
  pub stored_begins : {g : ℕ} → g ≡ h.start → StartOf T g h.firsts
  stored_begins e =
      record {
        long = omega (arith, s.sound.n.1, ap (λ (x : Header). length x.firsts) s.header);
        shared = sym (e ∙ start);
        local = λ t i. sym (first_local t i);
      }

  -- ---- the sizes

  pub stored_w : w_of h.sizes.threads h.sizes.shared h.sizes.locals h.sizes.frames ≡ W T
  unfolding W
  stored_w = ap (λ (x : Header). w_of x.sizes.threads x.sizes.shared x.sizes.locals x.sizes.frames) s.header

  pub stored_plan : {p : Plan} → p ≡ sized h.sizes.threads h.sizes.shared h.sizes.locals h.sizes.frames → p ≡ plan_of T
  stored_plan e = e ∙ ap (λ (x : Header). sized x.sizes.threads x.sizes.shared x.sizes.locals x.sizes.frames) s.header

  pub stored_sizes : (0 < h.sizes.threads) × (h.sizes.threads ≤ 4) × (0 < h.sizes.shared) × (h.sizes.shared ≤ 16)
      × (0 < h.sizes.locals) × (h.sizes.locals ≤ 16) × (h.sizes.frames ≤ 8)
  stored_sizes = rw s.header (s.sound.n.0, s.sound.n.1, s.sound.G.0, s.sound.G.1, s.sound.L.0, s.sound.L.1, s.sound.F)
