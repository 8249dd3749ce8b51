-- A clear memory in which the positions of a list are marked, one after the other, marks these positions and no others.
use mathlib.Core.Path.{◌≡◌, refl, ◌∙◌}
use mathlib.Core.Logic.{◌⊎◌, inl, inr, ⊎_elim}
use mathlib.Core.List.{List, [], ◌∷◌, Memᴰ}
use Prim.Native.Nat.{ℕ, zero, suc, ◌≤◌}
use native.Mathlib.Decide.{ℕ_discrete}
use native.Mathlib.Omega.{arith}
use Rattle.numbers.specs.Reading.{got}
use Rattle.model.specs.Memory.{mark, Says, holds, fails}
use Rattle.store.specs.Marking.{room, Has, marked, Clear}
use Rattle.store.proofs.MarkLaws.{BitsTo, put_room, has_put, has_before, has_kept, bits_put, clear_none, clear_bits}
use Rattle.claim_reader.specs.ClaimFile.{AscendingFrom, AscendingBelow, count_at, positions_at, claim_at}
use Rattle.claim_reader.specs.ClaimAnswers.{IsClaim, positions_of}
use Rattle.claim_reader.specs.Marks.{Marks}
use Rattle.claim_reader.specs.Stages.{marked_all}
use Rattle.claim_reader.proofs.AscendingPositions.{positions_ascending}
use Rattle.claim_reader.proofs.ClaimLaws.{claim_listed}

-- ---- a memory with many marks

all_room : (ps mem : List ℕ) → room (marked_all mem ps) ≡ room mem
unfolding marked_all
all_room [] mem = refl
all_room (p ∷ ps) mem = all_room ps (marked mem p) ∙ put_room mem p

module _ (w : ℕ) where
  -- marks stay 0 or 1
  all_bits : (ps mem : List ℕ) (least : ℕ) → AscendingFrom w least ps → room mem ≡ w → BitsTo w mem → BitsTo w (marked_all mem ps)
  unfolding marked_all
  all_bits [] mem least a r b = b
  all_bits (p ∷ ps) mem least a r b = all_bits ps (marked mem p) _ a.2 (put_room mem p ∙ r) (bits_put mem p (omega arith) b)

  -- a mark stays
  all_kept : (ps mem : List ℕ) (least q : ℕ) → AscendingFrom w least ps → room mem ≡ w → Has mem q → Has (marked_all mem ps) q
  unfolding marked_all
  all_kept [] mem least q a r h = h
  all_kept (p ∷ ps) mem least q a r h = all_kept ps (marked mem p) _ q a.2 (put_room mem p ∙ r) (has_kept mem p q (omega arith) h)

  -- each position is marked
  all_put : (ps mem : List ℕ) (least q : ℕ) → AscendingFrom w least ps → room mem ≡ w → Memᴰ q ps → Has (marked_all mem ps) q
  unfolding marked_all
  all_put [] mem least q a r x3 = elim x3 [ ]
  all_put (p ∷ ps) mem least q a r (Memᴰ.head e) =
      all_kept ps (marked mem p) _ q a.2 (put_room mem p ∙ r) (rw e (has_put mem p (omega arith)))
  all_put (p ∷ ps) mem least q a r (Memᴰ.tail i) = all_put ps (marked mem p) _ q a.2 (put_room mem p ∙ r) i

-- and what is marked was marked before, or is one of the positions
all_only : (ps mem : List ℕ) (q : ℕ) → Has (marked_all mem ps) q → Has mem q ⊎ Memᴰ q ps
unfolding marked_all
all_only [] mem q h = inl h
all_only (p ∷ ps) mem q h = ⊎_elim (λ before. here (ℕ_discrete q p) before) (λ i. inr (Memᴰ.tail i)) (all_only ps (marked mem p) q h)
  where
    here : Dec (q ≡ p) → Has (marked mem p) q → Has mem q ⊎ Memᴰ q (p ∷ ps)
    here (yes e) i = inr (Memᴰ.head e)
    here (no n) i = inl (has_before mem p q n i)

-- ---- a clear memory

says_mark : {A : Type 0} (x : ℕ) → x ≤ 1 → (x ≡ 1 → A) → (A → x ≡ 1) → Says A x
says_mark zero b to fro = fails (λ a. absurd (omega (arith, fro a)))
says_mark (suc zero) b to fro = holds (to refl)
says_mark (suc (suc x)) b to fro = absurd (omega arith)

pub marks_made : {w : ℕ} (ps mem : List ℕ) → AscendingBelow w ps → room mem ≡ w → Clear mem → Marks w ps (marked_all mem ps)
unfolding Has
marks_made {w} ps mem a r clear =
    record {
      long = all_room ps mem ∙ r;
      says = λ p l.
          says_mark (mark (marked_all mem ps) p) (all_bits w ps mem 0 a r (clear_bits mem clear (omega arith)) p l)
          (λ h. ⊎_elim (λ before. absurd (clear_none mem clear p (omega arith) before)) (λ i. i) (all_only ps mem p h))
          (all_put w ps mem 0 p a r);
    }

-- ---- the memory that `mark_claim` leaves

pub claim_marked : {w k at : ℕ} {s : List ℕ} (mem : List ℕ) {mem' : List ℕ} → IsClaim w s → count_at w s ≡ got k at → Clear mem → room mem ≡ w
    → mem' ≡ marked_all mem (positions_of (positions_at w k 0 0 s at)) → Marks w (positions_of (claim_at w s)) mem'
claim_marked {w} {k} {at} {s} mem is e clear r made =
    let l = claim_listed is e in
    rw (made, l, is.reads) (marks_made is.positions mem (positions_ascending w s k 0 0 at _ _ l) r clear)

-- said of the positions that were read
pub marks_of : {w : ℕ} (s : List ℕ) {ps mem : List ℕ} {n : ℕ} → claim_at w s ≡ got ps n → Marks w (positions_of (claim_at w s)) mem → Marks w ps mem
marks_of s e marks = rw e at marks
