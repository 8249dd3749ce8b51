-- What follows from a memory that holds a set of facts, and when a memory holds the least relations: its marks are 0 or 1, each marked fact
-- is derivable, and the marked facts are a closed set with the start facts. Its sum is then the number of facts. A memory of which only
-- the first two are known has a sum that is no more than the number of facts; so if the sum is over a budget, the number is.
use mathlib.Core.Path.{◌≡◌, refl}
use mathlib.Core.List.{List, ◌++◌}
use Prim.Native.Nat.{ℕ, zero, suc, ◌+◌, ◌≤◌, ◌<◌}
use native.Mathlib.Nat.{add-zero}
use native.Mathlib.Numerals.{add-one}
use native.Mathlib.Omega.{arith}
use lib.ListN.{length, drop, length-append, get_or-append}
use lib.Seq.{drop_at}
use Rattle.files.specs.Table.{Table, Sound, W}
use Rattle.model.specs.Rules.{Fact, ClosedWithStarts, Derives}
use Rattle.model.specs.Positions.{Fits, pos, fact_at}
use Rattle.model.specs.Memory.{
  mark,
  Bits,
  Says,
  holds,
  fails,
  Holds,
  Relations,
  Marked,
  total,
  Counts,
  none,
  one,
  skip,
  CountOf,
  FactCount,
  Exceeds,
}
use Rattle.model.proofs.Least.{least}
use Rattle.model.proofs.Positions.{pos_lt, fact_at_pos, fact_at_stands}

-- ---- a mark

pub says_one : {A : Type 0} {x : ℕ} → Says A x → x ≡ 1 → A
says_one (holds a) e = a
says_one (fails n) e = absurd (omega arith)

pub says_yes : {A : Type 0} {x : ℕ} → Says A x → A → x ≡ 1
says_yes (holds _) a = refl
says_yes (fails n) a = absurd (n a)

-- a mark that says something is 0 or 1
pub says_bit : {A : Type 0} {x : ℕ} → Says A x → x ≤ 1
says_bit (holds _) = omega arith
says_bit (fails _) = omega arith

-- a mark of 0 or 1 that is not 1 is 0
pub unmarked : (x : ℕ) → x ≤ 1 → ¬ (x ≡ 1) → x ≡ 0
unmarked zero h n = refl
unmarked (suc zero) h n = absurd (n refl)
unmarked (suc (suc x)) h n = absurd (omega arith)

-- a mark of 0 or 1 says whether it is 1
bit_says : (x : ℕ) → x ≤ 1 → Says (x ≡ 1) x
bit_says zero h = fails (λ e. omega arith)
bit_says (suc zero) h = holds refl
bit_says (suc (suc x)) h = absurd (omega arith)

pub says_cast : {A B : Type 0} {x : ℕ} → (A → B) → (B → A) → Says A x → Says B x
says_cast to fro (holds a) = holds (to a)
says_cast to fro (fails n) = fails (λ b. n (fro b))

-- ---- a memory that holds S

module _ {T : Table} {S : Fact → Type 0} {mem : List ℕ} (h : Holds T S mem) where
  says_at : (f : Fact) → Fits T f → Says (S f) (mark mem (pos T f))
  says_at f i = rw (fact_at_pos T f i) at (h.says (pos T f) (pos_lt T f i))

  -- the marked facts are the facts of S that are in range
  pub marked_in : (f : Fact) → Marked T mem f → S f
  marked_in f m = says_one (says_at f m.fits) m.one

  pub in_marked : (f : Fact) → Fits T f → S f → Marked T mem f
  in_marked f i s = record { fits = i; one = says_yes (says_at f i) s }

  -- and the sum of the marks is their number
  total_counts_to : (w : ℕ) → w ≤ W T → Counts (λ p. S (fact_at T p)) w (total mem w)
  unfolding total
  total_counts_to zero l = none
  total_counts_to (suc w) l = add (total_counts_to w (omega arith)) (h.says w l)
    where
      add : {c x : ℕ} → Counts (λ p. S (fact_at T p)) w c → Says (S (fact_at T w)) x → Counts (λ p. S (fact_at T p)) (suc w) (c + x)
      add k (holds s) = rw add-one (one k s)
      add k (fails n) = rw add-zero (skip k n)

  pub total_counts : CountOf T S (total mem (W T))
  total_counts = total_counts_to (W T) (omega arith)

holds_cast : {T : Table} {S S' : Fact → Type 0} {mem : List ℕ} → ((f : Fact) → S f → S' f) → ((f : Fact) → S' f → S f)
    → Holds T S mem → Holds T S' mem
holds_cast to fro h = record { long = h.long; says = λ p l. says_cast (to _) (fro _) (h.says p l) }

-- what W bytes hold, they hold before any others
pub held_before : {T : Table} {S : Fact → Type 0} {mem : List ℕ} → length mem ≡ W T → Holds T S mem → (rest : List ℕ)
    → Holds T S (mem ++ rest) × (drop (W T) (mem ++ rest) ≡ rest)
held_before {T} {mem = mem} e h rest = (
  record {
    long = omega (arith, length-append mem rest);
    says = λ p l. rw (get_or-append mem rest 0 p (omega arith)) (h.says p l);
  },
  drop_at mem rest (W T) e,
)

-- ---- a memory of marks 0 and 1

module _ {T : Table} (sound : Sound T) {mem : List ℕ} (bits : Bits T mem) where
  -- it says of each fact whether it marks it
  marks_say : (p : ℕ) → p < W T → Says (Marked T mem (fact_at T p)) (mark mem p)
  marks_say p l =
      let at = fact_at_stands sound p l in
      says_cast (λ e. record { fits = at.fits; one = rw at.here e }) (λ m. rw at.here at m.one) (bit_says (mark mem p) (bits p l))

  marked_held : W T ≤ length mem → Holds T (Marked T mem) mem
  marked_held long = record { long = long; says = marks_say }

  module _ (sub : (f : Fact) → Marked T mem f → Derives T f) where
    -- if the marked facts are derivable, and a closed set with the start facts, then the memory holds the least relations
    pub relations_held : W T ≤ length mem → ClosedWithStarts T (Marked T mem) → Relations T mem
    relations_held long c = holds_cast sub (least c) (marked_held long)

    -- and its sum is the number of facts
    pub relations_counted : W T ≤ length mem → ClosedWithStarts T (Marked T mem) → FactCount T (total mem (W T))
    relations_counted long c = total_counts (relations_held long c)

    -- if they are derivable, its sum is at most the number of facts
    total_le_to : {w c : ℕ} → w ≤ W T → Counts (λ p. Derives T (fact_at T p)) w c → total mem w ≤ c
    unfolding total
    total_le_to l none = omega arith
    total_le_to l (one {w} k d) = omega (arith, total_le_to (omega arith) k, bits w l)
    total_le_to l (skip {w} k n) = go (marks_say w l) (total_le_to (omega arith) k)
      where
        go : {x c t : ℕ} → Says (Marked T mem (fact_at T w)) x → t ≤ c → t + x ≤ c
        go (holds m) _ = absurd (n (sub _ m))
        go (fails _) i = omega arith

-- so if some such memory exceeds a budget, the number of facts is above it
pub exceeds_count : {T : Table} {budget c : ℕ} → Sound T → Exceeds T budget → FactCount T c → budget < c
exceeds_count sound e k = omega (arith, e.over, total_le_to sound e.bits e.derivable (omega arith) k)
