-- Laws of a number that was read and is asked for its range.
--     ranged_field    asked of the number at a place, it is the field at that place
--     ranged_got      a number that was taken is the one that was read, and is below its range's end
use mathlib.Core.Path.{◌≡◌, refl, sym, ◌∙◌}
use mathlib.Core.List.{List}
use mathlib.Core.Bool.{Bool, true, false}
use Prim.Native.Nat.{ℕ, ◌<◌}
use native.Mathlib.Omega.{arith}
use borrow.Author.Tests.{ltb-true}
use lib.Dec.{ltb}
use Rattle.std.specs.Prelude.{Result, Ok, Err}
use Rattle.numbers.specs.Reading.{Out, got, bad, part, then, pick, number_at, field_at, part_of}
use Rattle.numbers.specs.declared.refusals.Refusal.{Refusal}
use Rattle.numbers.specs.declared.refusals.Refusal.TheVariants.{Outside}
use Rattle.numbers.specs.declared.reading.Part.{Part}
use Rattle.numbers.proofs.ReadingLaws.{never}
use Rattle.reader.specs.Ranges.{ranged_of}

module _ (at low end : ℕ) where
  either : (t₁ t₂ : Bool) (v n : ℕ)
      → pick t₁ (Err (Outside at)) (pick t₂ (Ok (part v n)) (Err (Outside at)))
      ≡ part_of (pick t₁ (bad (Outside at)) (pick t₂ (got v n) (bad (Outside at))))
  either true t₂ v n = refl
  either false true v n = refl
  either false false v n = refl

  of_out : (o : Out ℕ) → ranged_of at low end (part_of o)
      ≡ part_of (then o λ v n. pick (ltb v low) (bad (Outside at)) (pick (ltb v end) (got v n) (bad (Outside at))))
  of_out (got v n) = either (ltb v low) (ltb v end) v n
  of_out (bad r) = refl

  pub ranged_field : (s : List ℕ) → ranged_of at low end (part_of (number_at s at)) ≡ part_of (field_at s at low end)
  unfolding field_at
  ranged_field s = of_out (number_at s at)

  taken : (read : Result (Part ℕ) Refusal) (p : Part ℕ) → read ≡ Ok p → (v n : ℕ) (t₁ t₂ : Bool) → ltb p.value end ≡ t₂
      → Ok (part v n) ≡ pick t₁ (Err (Outside at)) (pick t₂ (Ok p) (Err (Outside at))) → (read ≡ Ok (part v n)) × (v < end)
  taken read p is v n true t₂ e h = never (cc)
  taken read p is v n false false e h = never (cc)
  taken read p is v n false true e h = let q : p.value ≡ v = cc in (is ∙ sym h, omega (arith, ltb-true p.value end e))

  pub ranged_got : (read : Result (Part ℕ) Refusal) (v n : ℕ) → Ok (part v n) ≡ ranged_of at low end read → (read ≡ Ok (part v n)) × (v < end)
  ranged_got (Ok p) v n h = taken (Ok p) p refl v n (ltb p.value low) (ltb p.value end) refl h
  ranged_got (Err r) v n h = never (cc)
