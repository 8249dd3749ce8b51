-- Laws of a number that is read.
--     groups_none, _cut, _short, _last, _more    what `groups_at` gives, one law for each way that it goes
--     Accepted                                   what the bytes of a number are, said without the order of the tests
--     accepted, accepted_groups                  `groups_at` gives a value exactly where the bytes are those of a number
--     number_groups, _small                      a number is four groups at most, and a byte below 128 is one by itself
--     number_past, number_below                  a number that was read ends within the bytes, and is below 2^28
--     number_short                               it takes no more bytes than it is large, and 0 takes one
-- Each property of a number is an induction on `Accepted`.
use mathlib.Core.Path.{◌≡◌, refl, sym, ap, ◌∙◌}
use mathlib.Core.List.{List}
use mathlib.Core.Bool.{Bool, true, false}
use Prim.Native.Nat.{ℕ, zero, suc, ◌+◌, ◌*◌, ◌-◌, ◌%◌, ◌^◌, max, ◌≤◌, ◌<◌}
use native.Mathlib.Omega.{arith}
use native.Mathlib.Nat.{one-le-pow, lt_of_lt_of_le, pow-le-pow_right}
use borrow.Author.Tests.{lt-ltb, le-ltb, ltb-true, ltb-false}
use lib.ListN.{length, get_or}
use lib.Dec.{ltb, lit<}
use Rattle.std.specs.Prelude.{Result, Ok, Err}
use Rattle.numbers.specs.declared.reading.Flaw.{Flaw}
use Rattle.numbers.specs.declared.reading.Part.{Part}
use Rattle.numbers.specs.declared.reading.Flaw.TheVariants.{Cut, Long}
use Rattle.numbers.specs.Reading.{got, part, pick, onto, groups_at, out_of, number_at}
use Rattle.numbers.proofs.ReadingLaws.{never}

-- ---- the ways that the reading of groups goes

pub groups_none : (left least : ℕ) (s : List ℕ) (at : ℕ) → left ≡ 0 → groups_at left least s at ≡ Err Long
unfolding groups_at
groups_none left least s at e = rw e

pub one_less : {left : ℕ} → (left ≡ 0 → ⊥) → left ≡ suc (left - 1)
one_less some = omega arith

module _ (left rest least : ℕ) (s : List ℕ) (at : ℕ) (some : left ≡ suc rest) where
  pub groups_cut : length s ≤ at → groups_at left least s at ≡ Err Cut
  unfolding groups_at
  groups_cut h = rw some (simp (le-ltb _ _ h))

  -- with the byte that stands there
  module _ {b : ℕ} (h : at < length s) (is : b ≡ get_or s at 0) where
    pub groups_short : b < 128 → b < least → groups_at left least s at ≡ Err Long
    unfolding groups_at
    groups_short l z = rw (some, ← is) (simp (lt-ltb _ _ h, lt-ltb _ _ l, lt-ltb _ _ z))

    pub groups_last : b < 128 → least ≤ b → groups_at left least s at ≡ Ok (part b (at + 1))
    unfolding groups_at
    groups_last l z = rw (some, ← is) (simp (lt-ltb _ _ h, lt-ltb _ _ l, le-ltb _ _ z))

    pub groups_more : {r : Result (Part ℕ) Flaw} → 128 ≤ b → r ≡ groups_at rest 1 s (at + 1) → groups_at left least s at ≡ onto (b % 128) r
    unfolding groups_at
    groups_more l e = rw (some, e, ← is) (simp (lt-ltb _ _ h, le-ltb _ _ l))

-- ---- what an accepted number is

abbrev ok_part : ℕ → ℕ → Result (Part ℕ) Flaw
ok_part v n = Ok (part v n)

-- the value and the place of a part
of_part : {v n w m : ℕ} → ◌≡◌ {A = Result (Part ℕ) Flaw} (Ok (part v n)) (Ok (part w m)) → (v ≡ w) × (n ≡ m)
of_part {v} {n} {w} {m} e =
    let same : part v n ≡ part w m = cc in
    (ap (λ (p : Part ℕ). p.value) same, ap (λ (p : Part ℕ). p.next) same)

-- In s, from `at` up to `next`, stand at most `left` bytes of the number `value`; the last of them is at least `least`.
pub data Accepted (s : List ℕ) : ℕ → ℕ → ℕ → ℕ → ℕ → Type 0 where
  ended : {left least at value next : ℕ} → at < length s → get_or s at 0 < 128 → least ≤ get_or s at 0
      → value ≡ get_or s at 0 → next ≡ at + 1 → Accepted s (suc left) least at value next
  more : {left least at value next : ℕ} (above : ℕ) → at < length s → 128 ≤ get_or s at 0
      → value ≡ get_or s at 0 % 128 + 128 * above → Accepted s left 1 (at + 1) above next → Accepted s (suc left) least at value next

module _ (s : List ℕ) (left least at v n : ℕ) (rest : (w : ℕ) → groups_at left 1 s (at + 1) ≡ Ok (part w n) → Accepted s left 1 (at + 1) w n) where
  -- each test of `groups_at` with its answer
  tests : (here : Bool) → ltb at (length s) ≡ here → (last : Bool) → ltb (get_or s at 0) 128 ≡ last
      → (short : Bool) → ltb (get_or s at 0) least ≡ short → (r : Result (Part ℕ) Flaw) → groups_at left 1 s (at + 1) ≡ r
      → pick here (pick last (pick short (Err Long) (Ok (part (get_or s at 0) (at + 1)))) (onto (get_or s at 0 % 128) r)) (Err Cut) ≡ Ok (part v n)
      → Accepted s (suc left) least at v n
  tests false h last l short z r e q = never (cc)
  tests true h true l true z r e q = never (cc)
  tests true h true l false z r e q =
      let i = of_part q in
      ended {value = v} {next = n} (ltb-true _ _ h) (ltb-true _ _ l) (ltb-false _ _ z) (sym i.0) (sym i.1)
  tests true h false l short z (Ok w) e q =
      let i = of_part q in
      more {value = v} w.value (ltb-true _ _ h) (ltb-false _ _ l) (sym i.0) (rest w.value (e ∙ ap (λ (m : ℕ). ok_part w.value m) i.1))
  tests true h false l short z (Err flaw) e q = never (cc)

module _ (s : List ℕ) where
  pub accepted : (left least at v n : ℕ) → groups_at left least s at ≡ Ok (part v n) → Accepted s left least at v n
  unfolding groups_at
  accepted zero least at v n q = never (cc)
  accepted (suc left) least at v n q = tests s left least at v n (λ w e. accepted left 1 (at + 1) w n e) _ refl _ refl _ refl _ refl q

  pub accepted_groups : {left least at v n : ℕ} → Accepted s left least at v n → groups_at left least s at ≡ Ok (part v n)
  accepted_groups (ended h l z e m) = groups_last _ _ _ _ _ refl h refl l z ∙ rw (e, m)
  accepted_groups (more w h l e a) = groups_more _ _ _ _ _ refl h refl l (sym (accepted_groups a)) ∙ rw e

  -- a number of at most `left` groups is below 128 to that power
  accepted_below : (left : ℕ) {least at v n : ℕ} → Accepted s left least at v n → v < 128 ^ left
  accepted_below zero {least = least} {at = at} {v = v} {n = n} x' = elim x' [ ]
  accepted_below (suc left) (ended h l z e m) = omega (arith, one-le-pow left 128 (omega arith))
  accepted_below (suc left) (more w h l e a) = omega (arith, accepted_below left a)

  -- the groups above the lowest leave room for it in 32 bits
  pub groups_room : (left least at v n : ℕ) → left ≤ 3 → groups_at left least s at ≡ Ok (part v n) → v < 2097152
  groups_room left least at v n h q =
      lt_of_lt_of_le (accepted_below left (accepted left least at v n q)) (pow-le-pow_right (lit< tt) h)

  -- the place past it is further on, and within the bytes
  accepted_past : {left least at v n : ℕ} → Accepted s left least at v n → (at < n) × (n ≤ at + left) × (n ≤ length s)
  accepted_past (ended h l z e m) = omega arith
  accepted_past (more w h l e a) = omega (arith, accepted_past a)

  -- where the last byte is not 0, neither is the number
  pub accepted_one : {left at v n : ℕ} → Accepted s left 1 at v n → 1 ≤ v
  accepted_one (ended h l z e m) = omega arith
  accepted_one (more w h l e a) = omega (arith, accepted_one a)

  -- a number of two bytes or more is 128 or more, and has four at most
  accepted_short : {least at v n : ℕ} → Accepted s 4 least at v n → n ≤ at + max 1 v
  accepted_short (ended h l z e m) = omega arith
  accepted_short (more w h l e a) = omega (arith, accepted_past a, accepted_one a)

-- ---- a number is at most four groups

pub number_groups : (s : List ℕ) (at : ℕ) {r : Result (Part ℕ) Flaw} → r ≡ groups_at 4 0 s at → number_at s at ≡ out_of (length s) at r
unfolding number_at
number_groups s at e = rw e

-- a byte below 128 is a number by itself
pub number_small : (s : List ℕ) (at : ℕ) {b : ℕ} → at < length s → b ≡ get_or s at 0 → b < 128 → number_at s at ≡ got b (at + 1)
number_small s at h is l = number_groups s at (sym (groups_last 4 3 0 s at refl h is l (omega arith)))

number_value : (bytes at v n : ℕ) (r : Result (Part ℕ) Flaw) → out_of bytes at r ≡ got v n → r ≡ Ok (part v n)
number_value bytes at v n (Ok w) e =
    let value : w.value ≡ v = cc in
    let next : w.next ≡ n = cc in
    rw (value, next)
number_value bytes at v n (Err Cut) e = never (cc)
number_value bytes at v n (Err Long) e = never (cc)

-- what callers use of a number that was read
module _ (s : List ℕ) (at v n : ℕ) (q : number_at s at ≡ got v n) where
  pub number_accepted : Accepted s 4 0 at v n
  unfolding number_at
  number_accepted = accepted s 4 0 at v n (number_value (length s) at v n _ q)

  pub number_past : (at < n) × (n ≤ at + 4) × (n ≤ length s)
  number_past = accepted_past s number_accepted

  pub number_below : v < 268435456
  number_below = accepted_below s 4 number_accepted

  pub number_short : n ≤ at + max 1 v
  number_short = accepted_short s number_accepted
