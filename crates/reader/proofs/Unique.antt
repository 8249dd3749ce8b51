-- Two results that a contract allows are equal: for each public function, of its contract as the prover reads it from the source.
-- Every contract here is an equation for the answer, and for the reader that was lent, so both results equal the same.
use mathlib.Core.Path.{◌≡◌, refl}
use mathlib.Core.List.{List}
use Prim.Native.Nat.{ℕ}
use Rattle.std.specs.Prelude.{Result}
use seplogic.Ra.Ura.{Ura}
use base.Logic.{SProp}
use prog.Memory.{Memory}
use prog.Routine.{Routine}
use types.Logic.{Logic}
use contract.Lifetimes.{Lfts}
use contract.Monad.{Fun, fact}
use denote.Ref.{Bor}
use denote.Triple.Clauses.{AtExit}
use denote.Triple.Entry.{Args}
use Rattle.numbers.specs.Reading.{number_at, part_of}
use Rattle.numbers.specs.declared.refusals.Refusal.{Refusal}
use Rattle.numbers.specs.declared.reading.Part.{Part}
use Rattle.numbers.proofs.Unique.{same, Fixes}
use Rattle.reader.specs.declared.Reader.{Reader}
use Rattle.reader.specs.Places.{left_from}
use Rattle.reader.specs.Readers.{moved_on}
use Rattle.reader.specs.contracts.Reader.new as reader_new
use Rattle.reader.specs.contracts.Reader.place as place
use Rattle.reader.specs.contracts.Reader.left as left
use Rattle.reader.specs.contracts.Reader.next as next
use Rattle.reader.proofs.number_at.Reads as number_at
use Rattle.reader.proofs.number_at.Kinds as number-at-kinds
use Rattle.reader.proofs.end_at.Reads as end-at
use Rattle.reader.proofs.end_at.Kinds as end-at-kinds
use Rattle.reader.proofs.ends.end_after.Reads as end_after
use Rattle.reader.proofs.ends.end_after.Kinds as end-after-kinds
use Rattle.reader.proofs.fields.ranged.Reads as ranged
use Rattle.reader.proofs.fields.ranged.Kinds as ranged-kinds
use Rattle.reader.proofs.fields.field.Reads as field
use Rattle.reader.proofs.fields.field.Kinds as field-kinds
use Rattle.reader.proofs.fields.version.Reads as version
use Rattle.reader.proofs.fields.version.Kinds as version-kinds

-- ---- with plain parameters

pub number_at_fixes : Fixes number-at-kinds.ps number-at-kinds.r number_at.Post
number_at_fixes κs a x x' s s' = same

pub end_at_fixes : Fixes end-at-kinds.ps end-at-kinds.r end-at.Post
end_at_fixes κs a x x' s s' = same

pub end_after_fixes : Fixes end-after-kinds.ps end-after-kinds.r end_after.Post
end_after_fixes κs a x x' s s' = same

pub ranged_fixes : Fixes ranged-kinds.ps ranged-kinds.r ranged.Post
ranged_fixes κs a x x' s s' = same

pub field_fixes : Fixes field-kinds.ps field-kinds.r field.Post
field_fixes κs a x x' s s' = same

pub version_fixes : Fixes version-kinds.ps version-kinds.r version.Post
version_fixes κs a x x' s s' = same

-- ---- over a reader: what each contract says, in its text

-- the reader that is made holds these bytes and stands at this place
abbrev pub Made : Bor (List ℕ) → ℕ → Reader → Type 0
Made src at r = (r.src ≡ src) × (r.at ≡ at)

pub new_unique : (src : Bor (List ℕ)) (at : ℕ) (r r' : Reader) → Made src at r → Made src at r' → r ≡ r'
new_unique src at r r' p q = λ i. record { src = same p.0 q.0 i; at = same p.1 q.1 i }

pub place_unique : (r : Reader) (n n' : ℕ) → n ≡ r.at → n' ≡ r.at → n ≡ n'
place_unique r n n' = same

pub left_unique : (r : Reader) (n n' : ℕ) → n ≡ left_from r.src.now r.at → n' ≡ left_from r.src.now r.at → n ≡ n'
left_unique r n n' = same

-- the answer of `next`, and the reader at exit
abbrev pub ReadOn : Reader → Result (Part ℕ) Refusal → Reader → Type 0
ReadOn r n r' = (n ≡ part_of (number_at r.src.now r.at)) × (r' ≡ moved_on r)

pub next_unique : (r : Reader) (n n' : Result (Part ℕ) Refusal) (end end' : Reader) → ReadOn r n end → ReadOn r n' end' → (n ≡ n') × (end ≡ end')
next_unique r n n' end end' p q = (same p.0 q.0, same p.1 q.1)

-- ---- and these are the contracts: the clause that the prover reads from the source is that fact

module _ {M : Type 1} {𝓤 : Ura M} (𝓛 : Logic 𝓤) (mem : Memory → SProp 𝓤) (run : Routine → Fun 𝓤) where
  pub new_says : (κs : Lfts 1) (a : Args reader_new.signature κs) (r : Reader) (s : AtExit reader_new.ended κs)
      → (reader_new.clauses 𝓛 mem run κs a).ensures tt r s ≡ fact 𝓤 (Made a.0 a.1.0 r)
  new_says κs a r s = refl

  pub place_says : (κs : Lfts 1) (a : Args place.signature κs) (n : ℕ) (s : AtExit place.ended κs)
      → (place.clauses 𝓛 mem run κs a).ensures tt n s ≡ fact 𝓤 (n ≡ a.0.at)
  place_says κs a n s = refl

  pub left_says : (κs : Lfts 1) (a : Args left.signature κs) (n : ℕ) (s : AtExit left.ended κs)
      → (left.clauses 𝓛 mem run κs a).ensures tt n s ≡ fact 𝓤 (n ≡ left_from a.0.src.now a.0.at)
  left_says κs a n s = refl

  pub next_says : (κs : Lfts 2) (a : Args next.signature κs) (n : Result (Part ℕ) Refusal) (s : AtExit next.ended κs)
      → (next.clauses 𝓛 mem run κs a).ensures tt n s ≡ fact 𝓤 (ReadOn a.0.now n s.0.now)
  next_says κs a n s = refl
