-- Laws of a number that has a range.
--     field_low, _high, _in    what `field_at` gives for a number below its range, above it and in it
--     field_got                what is known of a field that was read
--     field_number             it is a number that was read
use mathlib.Core.Path.{◌≡◌, refl, ◌∙◌}
use mathlib.Core.List.{List}
use mathlib.Core.Bool.{Bool, true, false}
use Prim.Native.Nat.{ℕ, ◌≤◌, ◌<◌}
use native.Mathlib.Omega.{arith}
use borrow.Author.Tests.{lt-ltb, le-ltb, ltb-true, ltb-false}
use lib.ListN.{length}
use lib.Dec.{ltb}
use Rattle.numbers.specs.declared.refusals.Refusal.TheVariants.{Outside}
use Rattle.numbers.specs.Reading.{got, bad, pick, number_at, field_at}
use Rattle.numbers.proofs.ReadingLaws.{never, parts}
use Rattle.numbers.proofs.NumberLaws.{number_past}

module _ (s : List ℕ) (at low end : ℕ) where
  pub field_low : {v n : ℕ} → number_at s at ≡ got v n → v < low → field_at s at low end ≡ bad (Outside at)
  unfolding field_at
  field_low q h = rw q (simp (lt-ltb _ _ h))

  pub field_high : {v n : ℕ} → number_at s at ≡ got v n → low ≤ v → end ≤ v → field_at s at low end ≡ bad (Outside at)
  unfolding field_at
  field_high q l h = rw q (simp (le-ltb _ _ l, le-ltb _ _ h))

  pub field_in : {v n : ℕ} → number_at s at ≡ got v n → low ≤ v → v < end → field_at s at low end ≡ got v n
  unfolding field_at
  field_in q l h = rw q (simp (le-ltb _ _ l, lt-ltb _ _ h))

  -- ---- what is known of a field that was read

  range_in : (w m v n : ℕ) → (t₁ : Bool) → ltb w low ≡ t₁ → (t₂ : Bool) → ltb w end ≡ t₂
      → pick t₁ (bad (Outside at)) (pick t₂ (got w m) (bad (Outside at))) ≡ got v n → (got w m ≡ got v n) × (low ≤ v) × (v < end)
  range_in w m v n true e₁ t₂ e₂ h = never (cc)
  range_in w m v n false e₁ false e₂ h = never (cc)
  range_in w m v n false e₁ true e₂ h =
      let ev : w ≡ v = cc in
      (h, omega (arith, ltb-false w low e₁), omega (arith, ltb-true w end e₂))

  pub field_got : (v n : ℕ) → field_at s at low end ≡ got v n → (low ≤ v) × (v < end) × (at < n) × (n ≤ length s)
  unfolding field_at
  field_got v n h =
      let p = parts (number_at s at) _ v n h in
      let k = range_in p.first p.place v n _ refl _ refl p.rest in
      omega (arith, k.1, k.2, number_past s at v n (cc))

  pub field_number : (v n : ℕ) → field_at s at low end ≡ got v n → number_at s at ≡ got v n
  unfolding field_at
  field_number v n h =
      let p = parts (number_at s at) _ v n h in
      p.was ∙ (range_in p.first p.place v n _ refl _ refl p.rest).0
