-- What reading a part of a file gives: laws of `Out`, of `then` and of the code's answer.
--     never                 0 is not 1: what `cc` makes of two constructors that would be equal
--     pick_either           what holds of both holds of the one that is picked
--     parts                 where a whole was read, its first part was read, and the rest from the place past it
--     part_got, _bad        what the code's answer tells of what was read
--     value_got, _bad       and where it has no place
use mathlib.Core.Path.{◌≡◌, refl}
use mathlib.Core.Bool.{Bool, true, false}
use Prim.Native.Nat.{ℕ}
use native.Mathlib.Omega.{arith}
use Rattle.numbers.specs.declared.refusals.Refusal.{Refusal}
use Rattle.std.specs.Prelude.{Ok, Err}
use Rattle.numbers.specs.declared.reading.Part.{Part}
use Rattle.numbers.specs.Reading.{Out, got, bad, then, pick, part_of, value_of}

pub never : {A : Type 0} → ◌≡◌ {A = ℕ} 0 1 → A
never e = absurd (omega arith)

pub pick_either : {A : Type 0} (P : A → Type 0) (t : Bool) {a b : A} → P a → P b → P (pick t a b)
pick_either P true p q = p
pick_either P false p q = q

-- ---- what was read before a whole that was read

pub record Parts {A B : Type 0} (o : Out A) (f : A → ℕ → Out B) (b : B) (m : ℕ) : Type 0 where
  pub first : A
  pub place : ℕ
  pub was : o ≡ got first place
  pub rest : f first place ≡ got b m

pub parts : {A B : Type 0} (o : Out A) (f : A → ℕ → Out B) (b : B) (m : ℕ) → then o f ≡ got b m → Parts o f b m
parts (got a n) f b m e = record { first = a; place = n; was = refl; rest = e }
parts (bad r) f b m e = never (cc)

-- ---- what the code's answer tells

pub part_got : {A : Type 0} (o : Out A) {p : Part A} → Ok p ≡ part_of o → o ≡ got p.value p.next
part_got (got a n) {p} e = let same : p ≡ record { value = a; next = n } = cc in rw same
part_got (bad r) e = never (cc)

pub part_bad : {A : Type 0} (o : Out A) {r : Refusal} → Err r ≡ part_of o → o ≡ bad r
part_bad (got a n) e = never (cc)
part_bad (bad q) e = cc

pub value_got : {A : Type 0} (o : Out A) {a : A} → Ok a ≡ value_of o → (n : ℕ) × (o ≡ got a n)
value_got (got b n) {a} e = let same : b ≡ a = cc in (n, rw same)
value_got (bad r) e = never (cc)

pub value_bad : {A : Type 0} (o : Out A) {r : Refusal} → Err r ≡ value_of o → o ≡ bad r
value_bad (got b n) e = never (cc)
value_bad (bad q) {r} e = let same : q ≡ r = cc in rw same
