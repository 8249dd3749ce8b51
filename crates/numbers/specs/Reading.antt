-- Reading a file from the left, the first fault wins (document 01, "Numbers" and the order under "What comes back").
use Rattle.std.specs.Prelude.{ℕ, zero, suc, ◌+◌, ◌*◌, ◌%◌, List, Bool, true, false, Result, Ok, Err, length, get_or, ltb, eqb}
use Rattle.numbers.specs.declared.refusals.Refusal.{Refusal}
use Rattle.numbers.specs.declared.refusals.Refusal.TheVariants as refusal
use Rattle.numbers.specs.declared.reading.Flaw.{Flaw}
use Rattle.numbers.specs.declared.reading.Flaw.TheVariants as flaw
use Rattle.numbers.specs.declared.reading.Part.{Part}

-- ---- what reading a part of a file gives

-- what was read, with the place past it; or the refusal
pub data Out (A : Type 0) : Type 0 where
  got : A → ℕ → Out A
  bad : Refusal → Out A

-- what follows is read from the place past what was read
abbrev pub then : {A B : Type 0} → Out A → (A → ℕ → Out B) → Out B
then (got a next) f = f a next
then (bad r) f = bad r

abbrev pub pick : {A : Type 0} → Bool → A → A → A
pick true a b = a
pick false a b = b

-- ---- numbers

-- a part of a file with the place past it
abbrev pub part : {A : Type 0} → A → ℕ → Part A
part a next = record { value = a; next = next }

-- seven bits below a number that was read after them
abbrev pub onto : ℕ → Result (Part ℕ) Flaw → Result (Part ℕ) Flaw
onto low (Ok above) = Ok (part (low + 128 * above.value) above.next)
onto low (Err flaw) = Err flaw

-- What stands from `at` on, where at most `left` more bytes may belong to the number and its last byte is at least `least`.
-- No byte may be left: too long. No byte is there: cut. A byte below 128 ends the number. Any other gives seven bits and goes on.
unfoldable pub groups_at : ℕ → ℕ → List ℕ → ℕ → Result (Part ℕ) Flaw
groups_at zero least s at = Err flaw.Long
groups_at (suc left) least s at =
    pick (ltb at (length s))
    (pick (ltb (get_or s at 0) 128)
    (pick (ltb (get_or s at 0) least) (Err flaw.Long) (Ok (part (get_or s at 0) (at + 1))))
    (onto (get_or s at 0 % 128) (groups_at left 1 s (at + 1))))
    (Err flaw.Cut)

-- of a number at `at`, in a file of so many bytes: 1 where these end, 2 where the number is too long or not shortest
abbrev pub out_of : ℕ → ℕ → Result (Part ℕ) Flaw → Out ℕ
out_of bytes at (Ok number) = got number.value number.next
out_of bytes at (Err flaw.Cut) = bad (refusal.Cut bytes)
out_of bytes at (Err flaw.Long) = bad (refusal.Long at)

-- A number is one to four bytes, seven bits each, the least significant group first, the top bit set on all but the last byte.
-- Of two bytes or more the last is not 0: only the shortest form is a number.
unfoldable pub number_at : List ℕ → ℕ → Out ℕ
number_at s at = out_of (length s) at (groups_at 4 0 s at)

-- a number that is at least `low` and below `end`: else 4
unfoldable pub field_at : List ℕ → ℕ → ℕ → ℕ → Out ℕ
field_at s at low end =
    then (number_at s at) λ value next.
    pick (ltb value low) (bad (refusal.Outside at)) (pick (ltb value end) (got value next) (bad (refusal.Outside at)))

-- a file begins with its version, which is 1: else 3
unfoldable pub version_at : List ℕ → Out ℕ
version_at s = then (number_at s 0) λ value next. pick (eqb value 1) (got value next) (bad refusal.Version)

-- ---- what the code answers

abbrev pub part_of : {A : Type 0} → Out A → Result (Part A) Refusal
part_of (got a next) = Ok (part a next)
part_of (bad r) = Err r

-- without the place past it
abbrev pub value_of : {A : Type 0} → Out A → Result A Refusal
value_of (got a next) = Ok a
value_of (bad r) = Err r
