-- The positions that are marked in a memory are strictly ascending and below w, and they are exactly those that are marked with 1. So a memory
-- that marks the positions of a claim gives them back, and the claim that is written from it is the one that was read.
use mathlib.Core.Path.{◌≡◌, refl, sym, ap, ap₂, ◌∙◌}
use mathlib.Core.Logic.{⊎_elim}
use mathlib.Core.List.Memᴰ
use mathlib.Core.List.{List, [], ◌∷◌, Memᴰ}
use Prim.Native.Nat.{ℕ, zero, suc, ◌+◌, ◌≤◌, ◌<◌}
use native.Mathlib.Decide.{ℕ_discrete}
use native.Mathlib.Omega.{arith}
use lib.ListN.{take}
use lib.Seq.{get_or-take}
use Rattle.numbers.specs.Reading.{got}
use Rattle.numbers.proofs.RoundTrip.{Bytes}
use Rattle.model.specs.Memory.{mark}
use Rattle.model.proofs.Memory.{says_one, says_yes}
use Rattle.store.specs.Marking.{Has}
use Rattle.store.proofs.MarkLaws.{has?}
use Rattle.claim_reader.specs.ClaimFile.{AscendingFrom, AscendingBelow, claim_at, claim_bytes}
use Rattle.claim_reader.specs.Marks.{marked_from, positions_in, Marks}
use Rattle.claim_reader.proofs.MarkedPositions.{marked_none, marked_here, marked_skip}
use Rattle.claim_reader.proofs.RoundTrip.{claim_ascending, claim_one}

-- ---- ascending lists

ascending_lower : (w least least' : ℕ) (ps : List ℕ) → least' ≤ least → AscendingFrom w least ps → AscendingFrom w least' ps
ascending_lower w least least' [] h a = tt
ascending_lower w least least' (p ∷ ps) h a = (omega arith, a.1, a.2)

ascending_in : (w least : ℕ) (ps : List ℕ) (q : ℕ) → AscendingFrom w least ps → Memᴰ q ps → (least ≤ q) × (q < w)
ascending_in w least [] q a x'' = elim x'' [ ]
ascending_in w least (p ∷ ps) q a (Memᴰ.head e) = omega arith
ascending_in w least (p ∷ ps) q a (Memᴰ.tail i) = omega (arith, ascending_in w (p + 1) ps q a.2 i)

pub ascending_below : {w : ℕ} {ps : List ℕ} → AscendingBelow w ps → (p : ℕ) → Memᴰ p ps → p < w
ascending_below {w} {ps} a p i = (ascending_in w 0 ps p a i).1

abbrev Within : List ℕ → List ℕ → Type 0
Within ps qs = (p : ℕ) → Memᴰ p ps → Memᴰ p qs

-- of two lists that begin alike, what stands in one's rest stands in the other's
within_tail : (w p : ℕ) (ps qs : List ℕ) → AscendingFrom w (p + 1) ps → Within (p ∷ ps) (p ∷ qs) → Within ps qs
within_tail w p ps qs a to q i =
    ⊎_elim (λ e. absurd (omega (arith, ascending_in w (p + 1) ps q a i))) (λ j. j) (Memᴰ.cases_cons (to q (Memᴰ.tail i)))

-- two ascending lists with the same members are the same
ascending_same : (w a b : ℕ) (ps qs : List ℕ) → AscendingFrom w a ps → AscendingFrom w b qs → Within ps qs → Within qs ps → ps ≡ qs
ascending_same w a b [] [] h k to fro = refl
ascending_same w a b [] (q ∷ qs) h k to fro = absurd (Memᴰ.not-nil (fro q (Memᴰ.head refl)))
ascending_same w a b (p ∷ ps) [] h k to fro = absurd (Memᴰ.not-nil (to p (Memᴰ.head refl)))
ascending_same w a b (p ∷ ps) (q ∷ qs) h k to fro =
    let l = ascending_in w q (q ∷ qs) p (omega arith, k.1, k.2) (to p (Memᴰ.head refl)) in
    let m = ascending_in w p (p ∷ ps) q (omega arith, h.1, h.2) (fro q (Memᴰ.head refl)) in
    let e : p ≡ q = omega arith in
    let to' : Within (q ∷ ps) (q ∷ qs) = rw e at to in
    let fro' : Within (q ∷ qs) (q ∷ ps) = rw e at fro in
    let h' : AscendingFrom w (q + 1) ps = rw e at h.2 in
    ap₂ (λ (x : ℕ) (xs : List ℕ). x ∷ xs) e
    (ascending_same w (q + 1) (q + 1) ps qs h' k.2 (within_tail w q ps qs h' to') (within_tail w q qs ps k.2 fro'))

-- ---- the marked positions

module _ (mem : List ℕ) (w : ℕ) where
  marked_ascending : (k p : ℕ) → p + k ≡ w → AscendingFrom w p (marked_from mem p k)
  marked_ascending zero p e = rw marked_none tt
  marked_ascending (suc k) p e = go (has? mem p) (marked_ascending k (p + 1) (omega arith))
    where
      go : Dec (Has mem p) → AscendingFrom w (p + 1) (marked_from mem (p + 1) k) → AscendingFrom w p (marked_from mem p (suc k))
      go (yes h) a = rw (marked_here mem p k h) (omega arith, omega arith, a)
      go (no h) a = rw (marked_skip mem p k h) (ascending_lower w (p + 1) p (marked_from mem (p + 1) k) (omega arith) a)

marked_listed : (mem : List ℕ) (k p q : ℕ) → p ≤ q → q < p + k → Has mem q → Memᴰ q (marked_from mem p k)
marked_listed mem zero p q l h i = absurd (omega arith)
marked_listed mem (suc k) p q l h i = go (has? mem p) (ℕ_discrete q p) (λ m. marked_listed mem k (p + 1) q m (omega arith) i)
  where
    go : Dec (Has mem p) → Dec (q ≡ p) → (p + 1 ≤ q → Memᴰ q (marked_from mem (p + 1) k)) → Memᴰ q (marked_from mem p (suc k))
    go (yes j) (yes e) f = rw (marked_here mem p k j) (Memᴰ.head e)
    go (yes j) (no n) f = rw (marked_here mem p k j) (Memᴰ.tail (f (omega arith)))
    go (no j) (yes e) f = absurd (j (rw e at i))
    go (no j) (no n) f = rw (marked_skip mem p k j) (f (omega arith))

listed_marked : (mem : List ℕ) (k p q : ℕ) → Memᴰ q (marked_from mem p k) → Has mem q
listed_marked mem zero p q i = absurd (Memᴰ.not-nil (rw marked_none at i))
listed_marked mem (suc k) p q i = go (has? mem p) (listed_marked mem k (p + 1) q)
  where
    go : Dec (Has mem p) → (Memᴰ q (marked_from mem (p + 1) k) → Has mem q) → Has mem q
    go (yes h) f = ⊎_elim (λ e. rw e h) f (Memᴰ.cases_cons (rw (marked_here mem p k h) at i))
    go (no h) f = f (rw (marked_skip mem p k h) at i)

-- ps are strictly ascending and below w, and they are the positions below w that are marked with 1
pub record AreMarked (w : ℕ) (mem ps : List ℕ) : Type 0 where
  pub ascending : AscendingBelow w ps
  pub marked : (p : ℕ) → Memᴰ p ps → (p < w) × (mark mem p ≡ 1)
  pub listed : (p : ℕ) → p < w → mark mem p ≡ 1 → Memᴰ p ps

pub positions_of_marks : (w : ℕ) (mem : List ℕ) → AreMarked w mem (positions_in w mem)
unfolding positions_in Has
positions_of_marks w mem =
    let a : AscendingBelow w (marked_from mem 0 w) = marked_ascending mem w w 0 (omega arith) in
    record {
      ascending = a;
      marked = λ p i. (ascending_below a p i, listed_marked mem w 0 p i);
      listed = λ p l h. marked_listed mem w 0 p (omega arith) (omega arith) h;
    }

-- there is one such list
marked_same : {w : ℕ} {mem ps qs : List ℕ} → AreMarked w mem ps → AreMarked w mem qs → ps ≡ qs
marked_same {w} {mem} {ps} {qs} a b =
    ascending_same w 0 0 ps qs a.ascending b.ascending
    (λ p i. let h = a.marked p i in b.listed p h.0 h.1)
    (λ p i. let h = b.marked p i in a.listed p h.0 h.1)

-- ---- what a claim marked is what is written

pub positions_back : {w : ℕ} {ps mem : List ℕ} → AscendingBelow w ps → Marks w ps mem → positions_in w mem ≡ ps
positions_back {w} {ps} {mem} a m =
    marked_same (positions_of_marks w mem)
    (record {
      ascending = a;
      marked = λ p i. let l = ascending_below a p i in (l, says_yes (m.says p l) i);
      listed = λ p l h. says_one (m.says p l) h;
    })

-- the claim that is written from a memory in which a claim was marked is that claim
pub written_read : (w : ℕ) (s ps : List ℕ) (n : ℕ) {mem : List ℕ} → Bytes s → claim_at w s ≡ got ps n → Marks w ps mem
    → claim_bytes (positions_in w mem) ≡ s
written_read w s ps n b e m = ap claim_bytes (positions_back (claim_ascending w s ps n e) m) ∙ sym (claim_one w s ps n b e)

-- only the first w bytes count
pub positions_take : (w : ℕ) (mem : List ℕ) → positions_in w (take w mem) ≡ positions_in w mem
positions_take w mem =
    let a = positions_of_marks w (take w mem) in
    marked_same
    (record {
      ascending = a.ascending;
      marked = λ p i. let h = a.marked p i in (h.0, sym (get_or-take w mem p 0 h.0) ∙ h.1);
      listed = λ p l h. a.listed p l (get_or-take w mem p 0 l ∙ h);
    })
    (positions_of_marks w mem)
