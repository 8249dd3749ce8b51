-- Two results that a contract allows are equal: for each public function, in the text of its contract.
-- `Post` is the contract as the prover reads it from the source. So the second half says that the text here is the contract's:
-- a contract that is changed no longer fits it.
use mathlib.Core.Path.{◌≡◌, sym, ◌∙◌}
use mathlib.Core.List.{List}
use Prim.Native.Nat.{ℕ}
use lib.ListN.{length}
use Rattle.std.specs.Prelude.{Result}
use contract.Lifetimes.{Lfts}
use denote.Triple.Clauses.{AtExit}
use borrow.Fn.Kinds.{ParamKind, ResultKind, Out, Dens, res_t, ended_of}
use Rattle.numbers.specs.declared.refusals.Refusal.{Refusal}
use Rattle.numbers.specs.declared.refusals.Told.{Told}
use Rattle.numbers.specs.declared.reading.Part.{Part}
use Rattle.numbers.specs.Refusals.{told_of}
use Rattle.numbers.specs.Reading.{number_at, part_of}
use Rattle.numbers.specs.Writing.{bytes_of, put_next, put_into}
use Rattle.numbers.proofs.refusals.ToldFromRefusal.from.Reads as told
use Rattle.numbers.proofs.refusals.ToldFromRefusal.from.Kinds as told-kinds
use Rattle.numbers.proofs.reading.number.Reads as number
use Rattle.numbers.proofs.reading.number.Kinds as number-kinds
use Rattle.numbers.proofs.writing.width.Reads as width
use Rattle.numbers.proofs.writing.width.Kinds as width-kinds
use Rattle.numbers.proofs.writing.put_number.Reads as put-number
use Rattle.numbers.proofs.writing.put_number.Kinds as put-number-kinds

-- what equals the same is equal
pub same : {A : Type 0} {x y z : A} → x ≡ z → y ≡ z → x ≡ y
same p q = p ∙ sym q

-- ---- in the contracts' text

pub told_unique : (refusal : Refusal) (r r' : Told) → r ≡ told_of refusal → r' ≡ told_of refusal → r ≡ r'
told_unique refusal r r' = same

pub number_unique : (src : List ℕ) (at : ℕ) (r r' : Result (Part ℕ) Refusal) → r ≡ part_of (number_at src at) → r' ≡ part_of (number_at src at) → r ≡ r'
number_unique src at r r' = same

pub width_unique : (value r r' : ℕ) → r ≡ length (bytes_of value) → r' ≡ length (bytes_of value) → r ≡ r'
width_unique value r r' = same

-- the answer and every byte of the slice
pub put_number_unique : (dst : List ℕ) (at value r r' : ℕ) (exit exit' : List ℕ)
    → (r ≡ put_next dst at value) × (exit ≡ put_into dst at value)
    → (r' ≡ put_next dst at value) × (exit' ≡ put_into dst at value)
    → (r ≡ r') × (exit ≡ exit')
put_number_unique dst at value r r' exit exit' p q = (same p.0 q.0, same p.1 q.1)

-- ---- and these are the contracts

-- the claim of an `ensures` fixes the result
abbrev pub Fixes : {n : ℕ} (ps : List (ParamKind n)) (r : ResultKind n) → Out n ps r → Type 0
Fixes {n} ps r Post =
    (κs : Lfts n) (a : Dens κs ps) (x x' : (res_t r κs).Denot) (s s' : AtExit (ended_of n ps r) κs)
    → Post κs a x s → Post κs a x' s' → x ≡ x'

pub told_fixes : Fixes told-kinds.ps told-kinds.r told.Post
told_fixes κs a x x' s s' = told_unique a.0 x x'

pub number_fixes : Fixes number-kinds.ps number-kinds.r number.Post
number_fixes κs a x x' s s' = number_unique a.0.now a.1.0 x x'

pub width_fixes : Fixes width-kinds.ps width-kinds.r width.Post
width_fixes κs a x x' s s' = width_unique a.0 x x'

pub put_number_fixes : (κs : Lfts 1) (a : Dens κs put-number-kinds.ps) (x x' : ℕ)
    (s s' : AtExit (ended_of 1 put-number-kinds.ps put-number-kinds.r) κs)
    → put-number.Post κs a x s → put-number.Post κs a x' s' → (x ≡ x') × (s.0.now ≡ s'.0.now)
put_number_fixes κs a x x' s s' = put_number_unique a.0.now a.1.0 a.1.1.0 x x' s.0.now s'.0.now
