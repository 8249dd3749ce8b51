-- One row at one shared store g. If the row is aimed at no thread there, or some thread has no store for its cell, the row allows no error at g.
-- Else each thread's smallest store for its cell makes the smallest list that the row allows at g.
use mathlib.Core.Path.{◌≡◌, refl, sym, ap, ◌∙◌}
use mathlib.Core.Logic.{inl, inr}
use mathlib.Core.List.{List}
use Prim.Native.Nat.{ℕ, suc, ◌≤◌, ◌<◌}
use native.Mathlib.Decide.{ℕ_discrete}
use native.Mathlib.Omega.{arith}
use Rattle.std.proofs.Common.{Some, None}
use lib.ListN.{length, get_or}
use Rattle.files.specs.Table.{Table}
use Rattle.model.specs.Errors.{Erroneous}
use Rattle.model.specs.Verdict.{◌≼◌}
use Rattle.model.specs.Claims.{First}
use Rattle.positions.specs.Plans.{Plan}
use Rattle.verdict.specs.ErrorRows.{ErrorsOf, Allowed}
use Rattle.reaching.specs.Reaching.{
  Reached,
  Choice,
  Aimed,
  no_failed,
  picked,
  unfit,
  fit,
  asked_cell,
}
use Rattle.reaching.proofs.Numbers.{some_not_none, picked_reaches, picked_none}
use Rattle.reaching.proofs.CellLaws.{cell_eq, own_cell, other_cell, file_cell}
use Rattle.verdict.proofs.Smallest.{each_least, own_fails, fails_least}
use Rattle.verdict.proofs.LentIsTable.{
  EachReaches,
  some_thread,
  from_row_0,
  to_row_0,
  from_file_row,
  to_file_row,
  allows_reached,
  reached_allows,
}

-- they allow none by the row at g
abbrev pub NoneAt : Table → List ℕ → ℕ → ℕ → Type 0
NoneAt T m row g = (ls : List ℕ) → ¬ Allowed T m row g ls

-- the stores for the cell of thread t: it reaches them at g, and the cell fits them
abbrev pub StoreFor : Plan → ℕ → List ℕ → List ℕ → ℕ → ℕ → ℕ → ℕ → ℕ → Type 0
StoreFor s failed rows m row g u t = Choice (Reached s m g t) (asked_cell failed rows row u t)

-- the row is aimed at a thread, u
pub record AimedAt (s : Plan) (failed : ℕ) (rows : List ℕ) (n : ℕ) (m : List ℕ) (row g u : ℕ) : Type 0 where
  pub row_le : row ≤ n
  pub g_lt : g < s.g
  pub u_lt : u < s.n
  pub aimed : Aimed s failed rows m row g (Some u)

pub aimed_lt : {s : Plan} {failed : ℕ} {rows m : List ℕ} {row g u : ℕ} → 0 < s.n → Aimed s failed rows m row g (Some u) → u < s.n
aimed_lt p (no_failed z e q) = absurd (some_not_none q)
aimed_lt p (picked k z fk h) = (picked_reaches h).0
aimed_lt p (unfit i z c q) = absurd (some_not_none q)
aimed_lt {u = u} p (fit i z c q) = let e : u ≡ 0 = cc in omega arith

module _ {T : Table} {s : Plan} {failed : ℕ} {rows : List ℕ} {n : ℕ} (of : ErrorsOf T s failed rows n) {m : List ℕ} {row g : ℕ} where
  pub aimed_at : {u : ℕ} → row ≤ n → g < s.g → Aimed s failed rows m row g (Some u) → AimedAt s failed rows n m row g u
  aimed_at r l a = record { row_le = r; g_lt = l; u_lt = aimed_lt (some_thread of) a; aimed = a }

  -- what an allowed list has: for row 0 a thread that reaches the failed store k, and for a row of the file a store for each cell
  fails_reached : {k : ℕ} → row ≡ 0 → failed ≡ suc k → (ls : List ℕ) → Allowed T m row g ls
      → (t : ℕ) × (t < s.n) × (get_or ls t 0 ≡ k) × Reached s m g t k
  fails_reached {k} z fk ls a =
      let f = from_row_0 of a.erroneous z in
      let e : get_or ls f.t 0 ≡ k = omega (arith, f.here, fk) in
      (f.t, f.t_lt, e, rw e at ((allows_reached of a).reached f.t f.t_lt))

  file_stores : {i : ℕ} (u : ℕ) → row ≡ suc i → (ls : List ℕ) → Allowed T m row g ls
      → (t : ℕ) → t < s.n → StoreFor s failed rows m row g u t (get_or ls t 0)
  file_stores u z ls a t l =
      record {
        fits = cell_eq (file_cell failed rows u t z) ((from_file_row of a.erroneous z).locals t l);
        reached = (allows_reached of a).reached t l;
      }

  pub unaimed_none : Aimed s failed rows m row g None → NoneAt T m row g
  unaimed_none (no_failed z e q) ls a = omega (arith, (from_row_0 of a.erroneous z).here)
  unaimed_none (picked k z fk p) ls a = let (t, tl, e, r) = fails_reached z fk ls a in picked_none p t tl r
  unaimed_none (unfit i z c q) ls a = c (from_file_row of a.erroneous z).shared
  unaimed_none (fit i z c q) ls a = absurd (some_not_none (sym q))

  module _ {u : ℕ} (at : AimedAt s failed rows n m row g u) where
    ul : u < s.n
    ul = at.u_lt

    -- thread t has no store for its cell
    pub stuck_none : (t : ℕ) → t < s.n → ((l : ℕ) → ¬ StoreFor s failed rows m row g u t l) → NoneAt T m row g
    stuck_none t tl none ls a = go at.aimed (ℕ_discrete t u)
      where
        go : Aimed s failed rows m row g (Some u) → Dec (t ≡ u) → ⊥
        go (no_failed z e q) d = some_not_none q
        go (picked k z fk p) (yes e) = none k (record { fits = inr (own_cell failed rows z e ∙ fk); reached = rw e (picked_reaches p).1 })
        go (picked k z fk p) (no ne) =
            none (get_or ls t 0) (record { fits = inl (other_cell failed rows z ne); reached = (allows_reached of a).reached t tl })
        go (unfit i z c q) d = some_not_none q
        go (fit i z c q) d = none (get_or ls t 0) (file_stores u z ls a t tl)

    -- each thread is in its smallest
    module _ (ls : List ℕ) (count : length ls ≡ s.n) (all : (t : ℕ) → t < s.n → First (StoreFor s failed rows m row g u t) (get_or ls t 0)) where
      erroneous : Aimed s failed rows m row g (Some u) → Erroneous T g ls row
      erroneous (no_failed z e q) = absurd (some_not_none q)
      erroneous (picked k z fk p) =
          let e = own_fails (asked_cell failed rows row u) ls count all (own_cell failed rows z refl ∙ fk) (λ t. other_cell failed rows z) ul in
          rw z (to_row_0 of (record { t = u; t_lt = ul; here = fk ∙ ap suc (sym e) }))
      erroneous (unfit i z c q) = absurd (some_not_none q)
      erroneous (fit i z c q) =
          rw z
          (to_file_row of (omega (arith, at.row_le))
          (record { shared = c; locals = λ t l. cell_eq (sym (file_cell failed rows u t z)) (all t l).here.fits }))

      pub smallest_allowed : Allowed T m row g ls
      smallest_allowed =
          reached_allows of (record { count = count; shared = at.g_lt; reached = λ t l. (all t l).here.reached }) (erroneous at.aimed)

      pub smallest_least : (vs : List ℕ) → Allowed T m row g vs → ls ≼ vs
      smallest_least vs a = go at.aimed
        where
          h : EachReaches s m g vs
          h = allows_reached of a

          go : Aimed s failed rows m row g (Some u) → ls ≼ vs
          go (no_failed z e q) = absurd (some_not_none q)
          go (picked k z fk p) =
              let (v, vl, e, r) = fails_reached z fk vs a in
              fails_least (asked_cell failed rows row u) ls count all (own_cell failed rows z refl ∙ fk) (λ t. other_cell failed rows z) ul p vs
              h.reached v vl e h.count
          go (unfit i z c q) = absurd (some_not_none q)
          go (fit i z c q) = each_least (asked_cell failed rows row u) ls count all vs h.count (file_stores u z vs a)
