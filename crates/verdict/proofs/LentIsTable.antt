-- What is said of the lent bytes is what model says of the table: the stores that a thread reaches, the cells of an error row, and so the errors
-- that are allowed.
use mathlib.Core.Path.{◌≡◌, refl, sym, ap, ◌∙◌}
use mathlib.Core.Option.{some}
use mathlib.Core.List.{List, []}
use Prim.Native.Nat.{ℕ, zero, suc, ◌+◌, ◌*◌, ◌/◌, ◌%◌, ◌≤◌, ◌<◌}
use native.Mathlib.Omega.{arith}
use lib.Arith.{digits_lt}
use lib.ListN.{length, get_or, get_elem?}
use Rattle.files.specs.Table.{Table, Sound, Error, error_cells}
use Rattle.model.specs.Rules.{P}
use Rattle.model.specs.Errors.{Cell, Erroneous, Reaches, Witness, Allows}
use Rattle.model.specs.Errors as model
use Rattle.model.specs.Memory.{Marked}
use Rattle.positions.specs.Plans.{Plan, plan_of}
use Rattle.store.proofs.MarkLaws.{marked_has, has_marked}
use Rattle.positions.proofs.PlanIsModel.{pos_p, pos_p_to, pair_fits}
use Rattle.model.proofs.Lists.{some_lt}
use Rattle.verdict.specs.ErrorRows.{ErrorsOf}
use Rattle.reaching.specs.Reaching.{row_cell, Reached}
use Rattle.verdict.proofs.Lists.{some_get_or, get_d_some}
use Rattle.reaching.proofs.CellLaws.{cell_eq}

-- ---- the stores that are reached

module _ (T : Table) {m : List ℕ} {g t l : ℕ} where
  reached_reaches : Sound T → t < T.n → g < T.G → Reached (plan_of T) m g t l → Reaches (Marked T m) t g l
  reached_reaches sound tl gl r =
      let (al, kl) = pair_fits T sound r.j_lt in
      record {
        g₁ = r.j / T.L;
        l₁ = r.j % T.L;
        fact = has_marked (P t _ _ g l) (tl, al, kl, gl, r.l_lt) (pos_p_to T t r.j g l) r.has;
      }

  reaches_reached : Reaches (Marked T m) t g l → Reached (plan_of T) m g t l
  reaches_reached r =
      let (_, gl, ll, _, l_lt) = r.fact.fits in
      record {
        l_lt = l_lt;
        j = r.g₁ * T.L + r.l₁;
        j_lt = digits_lt gl ll;
        has = rw (← (pos_p T t r.g₁ r.l₁ g l)) (marked_has r.fact);
      }

-- each thread reaches its store of a list, at g
pub record EachReaches (s : Plan) (m : List ℕ) (g : ℕ) (ls : List ℕ) : Type 0 where
  pub count : length ls ≡ s.n
  pub shared : g < s.g
  pub reached : (t : ℕ) → t < s.n → Reached s m g t (get_or ls t 0)

-- ---- the rows

-- some thread is in the failed store
pub record SomeFails (s : Plan) (failed : ℕ) (ls : List ℕ) : Type 0 where
  pub t : ℕ
  pub t_lt : t < s.n
  pub here : failed ≡ suc (get_or ls t 0)

-- the cells of row i of the file fit
pub record RowFits (s : Plan) (rows : List ℕ) (i g : ℕ) (ls : List ℕ) : Type 0 where
  pub shared : Cell (row_cell rows i 0) g
  pub locals : (t : ℕ) → t < s.n → Cell (row_cell rows i (1 + t)) (get_or ls t 0)

-- the cells of the threads follow the shared one
local_cell : (r : Error) (t : ℕ) → t < 4 → get_or (error_cells r) (1 + t) 0 ≡ get_or r.locals t 0
local_cell r zero l = refl
local_cell r (suc zero) l = refl
local_cell r (suc (suc zero)) l = refl
local_cell r (suc (suc (suc zero))) l = refl
local_cell r (suc (suc (suc (suc t)))) l = absurd (omega arith)

module _ {T : Table} {s : Plan} {failed : ℕ} {rows : List ℕ} {n : ℕ} (of : ErrorsOf T s failed rows n) where
  pub threads : s.n ≡ T.n
  threads = ap (λ (s : Plan). s.n) of.plan

  pub some_thread : 0 < s.n
  some_thread = omega (arith, threads, of.sound.n.0)

  module _ (i : ℕ) {r : Error} (here : get_elem? T.errors i ≡ some r) where
    row_cell_lem : (j : ℕ) → j < 5 → row_cell rows i j ≡ get_or (error_cells r) j 0
    row_cell_lem j l =
        of.cells r i j (some_lt T.errors i here) l ∙ ap (λ (r : Error). get_or (error_cells r) j 0) (some_get_or T.errors i r here)

    thread_cell : (t : ℕ) → t < T.n → row_cell rows i (1 + t) ≡ get_or r.locals t 0
    thread_cell t l = let four : t < 4 = omega (arith, of.sound.n.1) in row_cell_lem (1 + t) (omega arith) ∙ local_cell r t four

  module _ {g : ℕ} {ls : List ℕ} where
    pub from_row_0 : {row : ℕ} → Erroneous T g ls row → row ≡ 0 → SomeFails s failed ls
    from_row_0 (model.failed t l e) z = record { t = t; t_lt = omega (arith, threads); here = of.fails ∙ e }
    from_row_0 (model.matched i r e h) z = absurd (omega arith)

    pub to_row_0 : SomeFails s failed ls → Erroneous T g ls 0
    to_row_0 f = model.failed f.t (omega (arith, f.t_lt, threads)) (sym of.fails ∙ f.here)

    pub from_file_row : {row i : ℕ} → Erroneous T g ls row → row ≡ suc i → RowFits s rows i g ls
    from_file_row (model.failed t l e) z = absurd (omega arith)
    from_file_row {i} (model.matched i' r e h) z =
        let q : i' ≡ i = omega arith in
        let here : get_elem? T.errors i ≡ some r = rw (sym q) e in
        record {
          shared = cell_eq (row_cell_lem i here 0 (omega arith)) h.shared;
          locals = λ t l. let tl : t < T.n = omega (arith, threads) in cell_eq (thread_cell i here t tl) (h.locals t tl);
        }

    pub to_file_row : {i : ℕ} → i < n → RowFits s rows i g ls → Erroneous T g ls (suc i)
    to_file_row {i} l f =
        let r = get_or T.errors i (record { shared = 0; locals = [] }) in
        let here : get_elem? T.errors i ≡ some r = get_d_some T.errors i _ (omega (arith, of.count)) in
        model.matched i r here
        (record {
          shared = cell_eq (sym (row_cell_lem i here 0 (omega arith))) f.shared;
          locals = λ t tl. cell_eq (sym (thread_cell i here t tl)) (f.locals t (omega (arith, threads)));
        })

    pub row_le : {row : ℕ} → Erroneous T g ls row → row ≤ n
    row_le (model.failed t l e) = omega arith
    row_le (model.matched i r e h) = omega (arith, some_lt T.errors i e, of.count)

  -- ---- the errors that are allowed

  pub allows_reached : {m : List ℕ} {w : Witness} → Allows T (Marked T m) w → EachReaches s m w.shared w.locals
  allows_reached {m} {w} a =
      rw of.plan
      (record {
        count = a.count;
        shared = (a.reached 0 of.sound.n.0).fact.fits.3;
        reached = λ t l. reaches_reached T (a.reached t l);
      })

  pub reached_allows : {m : List ℕ} {w : Witness} → EachReaches s m w.shared w.locals → Erroneous T w.shared w.locals w.row
      → Allows T (Marked T m) w
  reached_allows {m} {w} x e =
      let h : EachReaches (plan_of T) m w.shared w.locals = rw of.plan at x in
      record {
        count = h.count;
        erroneous = e;
        reached = λ t l. reached_reaches T of.sound l h.shared (h.reached t l);
      }
