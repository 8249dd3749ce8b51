-- Laws of the positions that are marked in a memory.
--     marked_here, _skip    the positions from p on, by whether p is marked
--     marked_most           they are no more than the positions that are looked at
--     positions_total       they are as many as the marks are in sum
--     Coming, coming        the marked positions from a place on: the first of them, and those after it
use mathlib.Core.Path.{◌≡◌, refl, sym, subst, ◌∙◌}
use mathlib.Core.List.{List, [], ◌∷◌}
use Prim.Native.Nat.{ℕ, zero, suc, ◌+◌, ◌-◌, ◌≤◌, ◌<◌}
use native.Mathlib.Omega.{arith}
use borrow.Author.Tests.{eq-eqb, ne_eqb}
use lib.ListN.{length}
use Rattle.std.specs.Prelude.{Option, Some, None}
use Rattle.model.specs.Memory.{mark, total}
use Rattle.model.proofs.Memory.{unmarked}
use Rattle.store.specs.Marking.{Has, NextMark}
use Rattle.store.proofs.MarkLaws.{BitsTo, has?}
use Rattle.store.proofs.NextLaws.{next_first, next_skip}
use Rattle.claim_reader.specs.Marks.{marked_from, positions_in}

pub marked_none : (mem : List ℕ) (p : ℕ) → marked_from mem p 0 ≡ []
unfolding marked_from
marked_none mem p = refl

module _ (mem : List ℕ) (p k : ℕ) where
  pub marked_here : Has mem p → marked_from mem p (suc k) ≡ p ∷ marked_from mem (p + 1) k
  unfolding marked_from Has
  marked_here h = simp (eq-eqb (mark mem p) 1 h)

  pub marked_skip : ¬ Has mem p → marked_from mem p (suc k) ≡ marked_from mem (p + 1) k
  unfolding marked_from Has
  marked_skip h = simp (ne_eqb (mark mem p) 1 h)

marked_most : (mem : List ℕ) (p k : ℕ) → length (marked_from mem p k) ≤ k
marked_most mem p zero = rw marked_none (omega arith)
marked_most mem p (suc k) = go (has? mem p) (marked_most mem (p + 1) k)
  where
    go : Dec (Has mem p) → length (marked_from mem (p + 1) k) ≤ k → length (marked_from mem p (suc k)) ≤ suc k
    go (yes h) i = rw (marked_here mem p k h) (omega arith)
    go (no h) i = rw (marked_skip mem p k h) (omega arith)

pub positions_most : (w : ℕ) (mem : List ℕ) → length (positions_in w mem) ≤ w
unfolding positions_in
positions_most w mem = marked_most mem 0 w

-- ---- how many there are, in a memory whose first w marks are 0 or 1

module _ (mem : List ℕ) where
  -- one more position is looked at
  marked_last : (k p : ℕ) → mark mem (p + k) ≤ 1 → length (marked_from mem p (suc k)) ≡ length (marked_from mem p k) + mark mem (p + k)
  unfolding Has
  marked_last zero p b = go (has? mem p)
    where
      here : p + 0 ≡ p
      here = omega arith

      go : Dec (Has mem p) → length (marked_from mem p 1) ≡ length (marked_from mem p 0) + mark mem (p + 0)
      go (yes h) = rw (marked_here mem p 0 h, marked_none, marked_none, here, h)
      go (no h) = rw (marked_skip mem p 0 h, marked_none, marked_none, unmarked (mark mem (p + 0)) b (λ e. h (rw here at e)))
  marked_last (suc k) p b = go (has? mem p) (marked_last k (p + 1) (rw next at b))
    where
      next : p + suc k ≡ p + 1 + k
      next = omega arith

      go : Dec (Has mem p)
          → length (marked_from mem (p + 1) (suc k)) ≡ length (marked_from mem (p + 1) k) + mark mem (p + 1 + k)
          → length (marked_from mem p (suc (suc k))) ≡ length (marked_from mem p (suc k)) + mark mem (p + suc k)
      go (yes h) e = rw (marked_here mem p (suc k) h, marked_here mem p k h, next) (omega arith)
      go (no h) e = rw (marked_skip mem p (suc k) h, marked_skip mem p k h, next) e

  pub positions_total : (w : ℕ) → BitsTo w mem → length (positions_in w mem) ≡ total mem w
  unfolding positions_in total
  positions_total zero b = rw marked_none
  positions_total (suc w) b =
      let here : 0 + w ≡ w = omega arith in
      let e = rw here at (marked_last w 0 (rw here (b w (omega arith)))) in
      omega (arith, positions_total w (λ p l. b p (omega arith)))

-- ---- the first of the marked positions, and the others

-- rest are the marked positions that are to come after `last`, and the next mark is the first of them; or there is none
abbrev pub Coming : List ℕ → ℕ → ℕ → Option ℕ → List ℕ → Type 0
Coming mem w last (Some p) rest = (p < w) × (last ≤ p) × (rest ≡ p ∷ marked_from mem (p + 1) (w - (p + 1)))
Coming mem w last None rest = rest ≡ []

module _ (mem : List ℕ) (w last : ℕ) where
  coming_from : (k from : ℕ) (next : Option ℕ) → last ≤ from → from + k ≡ w → NextMark mem from w next
      → Coming mem w last next (marked_from mem from k)
  unfolding marked_from
  coming_from zero from None h e n = refl
  coming_from zero from (Some p) h e n = absurd (omega (arith, n.here.past, n.here.below))
  coming_from (suc k) from next h e n = go (has? mem from) (coming_from k (from + 1) next (omega arith) (omega arith))
    where
      -- where the place has no mark, the list is that of the place after it
      skip : (next : Option ℕ) → Coming mem w last next (marked_from mem (from + 1) k) → ¬ Has mem from
          → Coming mem w last next (marked_from mem from (suc k))
      skip (Some p) c i = (c.0, c.1, marked_skip mem from k i ∙ c.2)
      skip None c i = marked_skip mem from k i ∙ c

      go : Dec (Has mem from) → (NextMark mem (from + 1) w next → Coming mem w last next (marked_from mem (from + 1) k))
          → Coming mem w last next (marked_from mem from (suc k))
      go (yes i) rec =
          let left : k ≡ w - (from + 1) = omega arith in
          let here : Coming mem w last (Some from) (marked_from mem from (suc k)) = (omega arith, h, marked_here mem from k i ∙ rw left) in
          subst (λ o. Coming mem w last o (marked_from mem from (suc k))) (sym (next_first mem from w next (omega arith) i n)) here
      go (no i) rec = skip next (rec (next_skip mem from w next i n)) i

  pub coming : (from : ℕ) (next : Option ℕ) → last ≤ from → from ≤ w → NextMark mem from w next
      → Coming mem w last next (marked_from mem from (w - from))
  coming from next h i n = coming_from (w - from) from next h (omega arith) n
