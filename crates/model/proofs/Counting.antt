-- Counting by a list: if the numbers of a set below a bound are those of an ascending list, their count is the length of the list. Up to
-- each number of the list the count stands still, and there it goes up by one.
use mathlib.Core.Path.{◌≡◌, refl, subst}
use mathlib.Core.List.{List, [], ◌∷◌, Memᴰ}
use Prim.Native.Nat.{ℕ, zero, suc, ◌+◌, ◌-◌, ◌≤◌, ◌<◌}
use native.Mathlib.Nat.{add-zero, add-suc}
use native.Mathlib.Omega.{arith}
use lib.ListN.{length}
use Rattle.model.specs.Memory.{Counts, none, one, skip}

-- strictly ascending from lo on, and below hi
abbrev pub Between : ℕ → ℕ → List ℕ → Type 0
Between lo hi [] = lo ≤ hi
Between lo hi (p ∷ ps) = (lo ≤ p) × Between (suc p) hi ps

module _ (hi : ℕ) where
  between_le : {lo : ℕ} (ps : List ℕ) → Between lo hi ps → lo ≤ hi
  between_le [] h = h
  between_le (p ∷ ps) (h, b) = omega (arith, between_le ps b)

  member_le : {lo q : ℕ} (ps : List ℕ) → Between lo hi ps → Memᴰ q ps → lo ≤ q
  member_le {lo = lo} {q = q} [] _ x3 = elim x3 [ ]
  member_le (p ∷ ps) (h, b) (Memᴰ.head e) = omega arith
  member_le (p ∷ ps) (h, b) (Memᴰ.tail m) = omega (arith, member_le ps b m)

past_head : {p q : ℕ} {ps : List ℕ} → p < q → Memᴰ q (p ∷ ps) → Memᴰ q ps
past_head l (Memᴰ.head e) = absurd (omega arith)
past_head l (Memᴰ.tail m) = m

module _ {A : ℕ → Type 0} where
  skips : {lo c : ℕ} (k : ℕ) → ((q : ℕ) → lo ≤ q → q < lo + k → ¬ A q) → Counts A lo c → Counts A (lo + k) c
  skips zero n c = rw add-zero c
  skips {lo} (suc k) n c = rw add-suc (skip (skips k (λ q h l. n q h (omega arith)) c) (n (lo + k) (omega arith) (omega arith)))

  -- if nothing between lo and hi is in A, the count stands still
  skips_to : {lo c : ℕ} (hi : ℕ) → lo ≤ hi → ((q : ℕ) → lo ≤ q → q < hi → ¬ A q) → Counts A lo c → Counts A hi c
  skips_to {lo} {c} hi h n k =
      let e : lo + (hi - lo) ≡ hi = omega arith in
      subst (λ (w : ℕ). Counts A w c) e (skips (hi - lo) (λ q i l. n q i (omega arith)) k)

  counts_on : {lo hi c : ℕ} (ps : List ℕ) → Between lo hi ps → ((q : ℕ) → lo ≤ q → q < hi → A q → Memᴰ q ps)
      → ((q : ℕ) → Memᴰ q ps → A q) → Counts A lo c → Counts A hi (c + length ps)
  counts_on {hi} [] h to fro k = rw add-zero (skips_to hi h (λ q i l a. elim (to q i l a) [ ]) k)
  counts_on {lo} {hi} {c} (p ∷ ps) (h, b) to fro k =
      let top = between_le hi ps b in
      let least : (q : ℕ) → Memᴰ q (p ∷ ps) → p ≤ q = λ q. member_le hi (p ∷ ps) (omega arith, b) in
      let before = skips_to p h (λ q i l a. absurd (omega (arith, least q (to q i (omega arith) a)))) k in
      let e : suc c + length ps ≡ c + suc (length ps) = omega arith in
      subst (Counts A hi) e
      (counts_on ps b (λ q i l a. past_head i (to q (omega arith) l a)) (λ q m. fro q (Memᴰ.tail m))
      (one before (fro p (Memᴰ.head refl))))

-- the count of a set that a list lists
pub listed_counts : {A : ℕ → Type 0} (hi : ℕ) (ps : List ℕ) → Between 0 hi ps → ((q : ℕ) → q < hi → A q → Memᴰ q ps)
    → ((q : ℕ) → Memᴰ q ps → A q) → Counts A hi (length ps)
listed_counts {A} hi ps b to fro =
    let e : 0 + length ps ≡ length ps = omega arith in
    subst (Counts A hi) e (counts_on ps b (λ q i l. to q l) fro none)
