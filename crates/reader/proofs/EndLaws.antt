-- Where a part of a file ends, and the end of the file.
--     ended_left               bytes that are left at a place are bytes after the end there
--     end_past, end_refused    what an end tells of what was read
--     ends_for, goes_on_for    whether the file ends is the same whatever is at the end
--     end_after_lem            the end of the file after a part is where the whole ends that is made of the part
--     end_looks                whether the file ends looks at one byte
use mathlib.Core.Path.{◌≡◌, refl}
use mathlib.Core.List.{List}
use mathlib.Core.Bool.{Bool, true, false}
use Prim.Native.Nat.{ℕ}
use native.Mathlib.Omega.{arith}
use borrow.Author.Tests.{eq-eqb, ne_eqb, lt-ltb, ltb-true, ltb-false}
use lib.ListN.{length, take}
use Rattle.std.specs.Prelude.{Ok, Err}
use lib.Seq.{length-take-le}
use lib.Dec.{ltb}
use Rattle.numbers.specs.declared.refusals.Refusal.{Refusal}
use Rattle.numbers.specs.declared.refusals.Refusal.TheVariants.{After}
use Rattle.numbers.specs.Reading.{Out, got, bad, then, pick}
use Rattle.numbers.proofs.ReadingLaws.{never}
use Rattle.numbers.proofs.Looks.{Looks, cut_same}
use Rattle.reader.specs.Places.{left_from}
use Rattle.reader.specs.Ends.{at_end, end_of, end_after}
use Rattle.reader.specs.Ended.{ended_of}

module _ (s : List ℕ) (at : ℕ) where
  by_test : (t : Bool) → ltb at (length s) ≡ t → ended_of (left_from s at) at ≡ end_of (at_end (tt {0}) s at)
  by_test true e = simp (ne_eqb (left_from s at) 0 (λ z. absurd (omega (arith, z, ltb-true at (length s) e))), e)
  by_test false e = simp (eq-eqb (left_from s at) 0 (omega (arith, ltb-false at (length s) e)), e)

  pub ended_left : ended_of (left_from s at) at ≡ end_of (at_end (tt {0}) s at)
  ended_left = by_test (ltb at (length s)) refl

-- ---- what an end tells

pub end_past : {A : Type 0} (o : Out A) (n : ℕ) → end_of o ≡ Ok n → (a : A) × (o ≡ got a n)
end_past (got a m) n e = let i : m ≡ n = cc in (a, rw i)
end_past (bad r) n e = never (cc)

pub end_refused : {A : Type 0} (o : Out A) (r : Refusal) → end_of o ≡ Err r → o ≡ bad r
end_refused (got a m) r e = never (cc)
end_refused (bad q) r e = let i : q ≡ r = cc in rw i

-- what is at the end does not matter for whether the file ends there
module _ {A B : Type 0} (a : A) (b : B) (s : List ℕ) (p : ℕ) where
  by_ended : (t : Bool) {n : ℕ} → pick t (bad (After p)) (got a p) ≡ got a n → pick t (bad (After p)) (got b p) ≡ got b n
  by_ended true e = never (cc)
  by_ended false {n} e = let same : p ≡ n = cc in rw same

  pub ends_for : {n : ℕ} → at_end a s p ≡ got a n → at_end b s p ≡ got b n
  ends_for e = by_ended (ltb p (length s)) e

  by_more : (t : Bool) {x : Refusal} → pick t (bad (After p)) (got a p) ≡ bad x → pick t (bad (After p)) (got b p) ≡ bad x
  by_more true {x} e = let same : After p ≡ x = cc in rw same
  by_more false e = never (cc)

  pub goes_on_for : {x : Refusal} → at_end a s p ≡ bad x → at_end b s p ≡ bad x
  goes_on_for e = by_more (ltb p (length s)) e

-- what is at the end does not matter for where it is
end_same : {A B : Type 0} (a : A) (b : B) (p : ℕ) (t : Bool) → end_of (pick t (bad (After p)) (got a p)) ≡ end_of (pick t (bad (After p)) (got b p))
end_same a b p true = refl
end_same a b p false = refl

pub end_after_lem : {A B : Type 0} (s : List ℕ) (o : Out A) (f : A → B) → end_after (end_of o) s ≡ end_of (then o λ a p. at_end (f a) s p)
end_after_lem s (got a p) f = end_same (tt {0}) (f a) p (ltb p (length s))
end_after_lem s (bad r) f = refl

-- ---- how far the end looks

after_past : {A : Type 0} (t : Bool) (a b : A) (p n : ℕ) → pick t (bad (After p)) (got a p) ≡ got b n → n ≡ p
after_past true a b p n e = never (cc)
after_past false a b p n e = cc

pub end_looks : {A : Type 0} (a : A) → Looks 1 (at_end a)
end_looks a =
    record {
      same = λ s k at h. cut_same (λ s. at_end a s at) s k λ l.
          rw (lt-ltb at (length s) (omega arith), lt-ltb at (length (take k s)) (omega (arith, length-take-le k s l)));
      past = λ s at b n e. omega (arith, after_past (ltb at (length s)) a b at n e);
    }
