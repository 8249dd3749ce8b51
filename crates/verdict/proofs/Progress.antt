-- How the search goes on. What lies before a row and a shared store is passed if it allows no error; so where the search ends, nothing is
-- allowed, and where it is left, the list found is the smallest.
use mathlib.Core.Path.{◌≡◌, refl, sym, subst, ◌∙◌}
use mathlib.Core.Logic.{by_cases}
use mathlib.Core.List.{List}
use Prim.Native.Nat.{ℕ, ◌+◌, ◌≤◌, ◌<◌}
use native.Mathlib.Decide.{dec_lt}
use native.Mathlib.Omega.{arith}
use borrow.Author.Count.{below_more}
use lib.ListN.{length, get_or, set, take, replicate, length-set}
use lib.Seq.{length-take-le, get_or-take, get_or-set_same, get_or-set_other}
use Rattle.files.specs.Table.{Table}
use Rattle.model.specs.Errors.{Witness, Allows}
use Rattle.model.specs.Verdict.{SmallestWitness, safe, possible}
use Rattle.model.specs.Memory.{Marked}
use Rattle.model.specs.Claims.{First}
use Rattle.positions.specs.Plans.{Plan}
use Rattle.verdict.specs.declared.search.Verdict.TheVariants.{Safe, Possible}
use Rattle.verdict.specs.ErrorRows.{ErrorsOf, Judged, Allowed, Smallest}
use Rattle.reaching.specs.Reaching.{Reached, Choice, asked_cell}
use Rattle.verdict.proofs.Lists.{≼-cons, get_or_zeros}
use Rattle.verdict.proofs.LentIsTable.{threads, row_le, allows_reached}
use Rattle.verdict.proofs.OneRow.{NoneAt, StoreFor, AimedAt, smallest_allowed, smallest_least}

-- ---- what is passed

-- no error is allowed by an earlier row, nor by this row at a lower shared store
pub record NoneBefore (T : Table) (m : List ℕ) (row g : ℕ) : Type 0 where
  pub earlier : (w : Witness) → w.row < row → ¬ Allows T (Marked T m) w
  pub lower : (w : Witness) → w.row ≡ row → w.shared < g → ¬ Allows T (Marked T m) w

-- so it is for every table whose plan, failed cell and error rows are lent
abbrev pub Passed : Plan → ℕ → List ℕ → ℕ → List ℕ → ℕ → ℕ → Type 0
Passed s failed rows n m row g = (T : Table) → ErrorsOf T s failed rows n → NoneBefore T m row g

-- a witness with that row and that shared store
allowed_at : {T : Table} {m : List ℕ} {w : Witness} {row g : ℕ} → w.row ≡ row → w.shared ≡ g → Allows T (Marked T m) w
    → Allowed T m row g w.locals
allowed_at {T} {m} {w} e q = subst (Allows T (Marked T m)) (λ i. record { row = e i; shared = q i; locals = w.locals })

module _ {s : Plan} {failed : ℕ} {rows : List ℕ} {n : ℕ} {m : List ℕ} where
  -- one row more
  pub passed_row : {row g : ℕ} → Passed s failed rows n m row g → s.g ≤ g → Passed s failed rows n m (row + 1) 0
  passed_row {row} {g} h le T of =
      record {
        earlier = λ w l a. by_cases (dec_lt w.row row) (λ b. (h T of).earlier w b a)
            (λ b. (h T of).lower w (omega arith) (omega (arith, (allows_reached of a).shared)) a);
        lower = λ w e l. absurd (omega arith);
      }

  -- one shared store more
  pub passed_shared : {row g : ℕ} → Passed s failed rows n m row g → ((T : Table) → ErrorsOf T s failed rows n → NoneAt T m row g)
      → Passed s failed rows n m row (g + 1)
  passed_shared {row} {g} h none T of =
      record {
        earlier = (h T of).earlier;
        lower = λ w e l a. by_cases (dec_lt w.shared g) (λ b. (h T of).lower w e b a)
            (λ b. none T of w.locals (allowed_at e (omega arith) a));
      }

  -- every row
  pub passed_safe : {row : ℕ} → Passed s failed rows n m row 0 → n < row → (T : Table) → ErrorsOf T s failed rows n → Judged T m Safe
  passed_safe h l T of =
      record { verdict = safe (λ w a. (h T of).earlier w (omega (arith, row_le of a.erroneous)) a); padded = tt }

-- the row allows an error at g, and no list is smaller
pub found_judged : {s : Plan} {failed : ℕ} {rows : List ℕ} {n : ℕ} {m : List ℕ} {row g : ℕ} → Passed s failed rows n m row g → (ls : List ℕ)
    → (T : Table) → ErrorsOf T s failed rows n → Smallest T m row g ls → Judged T m (Possible (record { row = row; g = g; locals = ls }))
found_judged {m = m} {row} {g} passed ls T of h =
    record { verdict = possible smallest; padded = (h.four, h.zeros) }
  where
    row_first : (v : Witness) → Allows T (Marked T m) v → row ≤ v.row
    row_first v a = let no : ¬ (v.row < row) = λ l. (passed T of).earlier v l a in omega arith

    shared_first : (v : Witness) → Allows T (Marked T m) v → row ≡ v.row → g ≤ v.shared
    shared_first v a e = let no : ¬ (v.shared < g) = λ l. (passed T of).lower v (sym e) l a in omega arith

    smallest : SmallestWitness T (Marked T m) (record { row = row; shared = g; locals = take T.n ls })
    smallest =
        record {
          allowed = h.allowed;
          least = λ v a. ≼-cons (row_first v a) (λ e. ≼-cons (shared_first v a e) (λ q. h.least v.locals (allowed_at (sym e) (sym q) a)));
        }

-- ---- the threads at one shared store

-- At row and g, where the row is aimed at thread u: each thread before t is in its smallest store for its cell, and past these stands 0.
pub record Choosing (s : Plan) (failed : ℕ) (rows : List ℕ) (n : ℕ) (m : List ℕ) (row u g : ℕ) (ls : List ℕ) (t : ℕ) : Type 0 where
  pub four : length ls ≡ 4
  pub chosen : (i : ℕ) → i < t → First (StoreFor s failed rows m row g u i) (get_or ls i 0)
  pub zeros : (i : ℕ) → t ≤ i → get_or ls i 0 ≡ 0

module _ {s : Plan} {failed : ℕ} {rows : List ℕ} {n : ℕ} {m : List ℕ} {row u g : ℕ} where
  pub choosing_none : Choosing s failed rows n m row u g (replicate 4 0) 0
  choosing_none = record { four = refl; chosen = λ i l. absurd (omega arith); zeros = λ i l. get_or_zeros 4 i }

  module _ {ls : List ℕ} {t : ℕ} (c : Choosing s failed rows n m row u g ls t) where
    -- d is the cell of thread t, and l the smallest store for it
    pub choosing_next : {d l : ℕ} → d ≡ asked_cell failed rows row u t → First (Choice (Reached s m g t) d) l → t < 4
        → Choosing s failed rows n m row u g (set ls t l) (t + 1)
    choosing_next {d} {l} cell first t4 =
        record {
          four = length-set ls t l ∙ c.four;
          chosen = below_more (λ i. First (StoreFor s failed rows m row g u i) (get_or (set ls t l) i 0)) t
              (λ i b. rw (get_or-set_other ls t i l 0 (omega arith)) (c.chosen i b))
              (rw (get_or-set_same ls t l 0 (omega (arith, c.four)), sym cell) first);
          zeros = λ i b. get_or-set_other ls t i l 0 (omega arith) ∙ c.zeros i (omega arith);
        }

    -- every thread is in its store
    pub choosing_found : AimedAt s failed rows n m row g u → t ≡ s.n → {T : Table} → ErrorsOf T s failed rows n → Smallest T m row g ls
    choosing_found at all {T} of =
        record {
          four = c.four;
          allowed = smallest_allowed of at (take T.n ls) count each;
          least = smallest_least of at (take T.n ls) count each;
          zeros = λ i l. c.zeros i (omega (arith, threads of));
        }
      where
        count : length (take T.n ls) ≡ s.n
        count = length-take-le T.n ls (omega (arith, c.four, of.sound.n.1)) ∙ sym (threads of)

        each : (i : ℕ) → i < s.n → First (StoreFor s failed rows m row g u i) (get_or (take T.n ls) i 0)
        each i l = rw (get_or-take T.n ls i 0 (omega (arith, threads of))) (c.chosen i (omega arith))
