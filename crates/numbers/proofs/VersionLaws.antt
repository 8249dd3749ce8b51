-- Laws of the version that a file begins with.
--     version_one, _other, _bad    what `version_at` gives, one law for each way that it goes
--     version_got                  what is known of a version that was read
--     version_number, _past        it is a number that was read, and takes one byte
use mathlib.Core.Path.{◌≡◌, refl, ◌∙◌}
use mathlib.Core.List.{List}
use mathlib.Core.Bool.{Bool, true, false}
use Prim.Native.Nat.{ℕ, ◌≤◌, ◌<◌}
use native.Mathlib.Omega.{arith}
use borrow.Author.Tests.{eq-eqb, ne_eqb, eqb-true}
use lib.ListN.{length}
use lib.Dec.{eqb}
use Rattle.numbers.specs.declared.refusals.Refusal.{Refusal}
use Rattle.numbers.specs.declared.refusals.Refusal.TheVariants.{Version}
use Rattle.numbers.specs.Reading.{got, bad, pick, number_at, version_at}
use Rattle.numbers.proofs.ReadingLaws.{never, parts}
use Rattle.numbers.proofs.NumberLaws.{number_past, number_short}

module _ (s : List ℕ) where
  pub version_one : {v n : ℕ} → number_at s 0 ≡ got v n → v ≡ 1 → version_at s ≡ got v n
  unfolding version_at
  version_one q h = rw q (simp (eq-eqb _ _ h))

  pub version_other : {v n : ℕ} → number_at s 0 ≡ got v n → (v ≡ 1 → ⊥) → version_at s ≡ bad Version
  unfolding version_at
  version_other q h = rw q (simp (ne_eqb _ _ h))

  pub version_bad : {r : Refusal} → number_at s 0 ≡ bad r → version_at s ≡ bad r
  unfolding version_at
  version_bad q = rw q

  -- ---- what is known of a version that was read

  one_in : (w m v n : ℕ) (t : Bool) → eqb w 1 ≡ t → pick t (got w m) (bad Version) ≡ got v n → (got w m ≡ got v n) × (v ≡ 1)
  one_in w m v n true e h =
      let ev : w ≡ v = cc in
      (h, omega (arith, eqb-true w 1 e))
  one_in w m v n false e h = never (cc)

  pub version_got : (v n : ℕ) → version_at s ≡ got v n → (v ≡ 1) × (0 < n) × (n ≤ length s)
  unfolding version_at
  version_got v n h =
      let p = parts (number_at s 0) _ v n h in
      let k = one_in p.first p.place v n _ refl p.rest in
      omega (arith, k.1, number_past s 0 v n (cc))

  pub version_number : (v n : ℕ) → version_at s ≡ got v n → number_at s 0 ≡ got v n
  unfolding version_at
  version_number v n h =
      let p = parts (number_at s 0) _ v n h in
      p.was ∙ (one_in p.first p.place v n _ refl p.rest).0

  pub version_past : (v n : ℕ) → version_at s ≡ got v n → n ≡ 1
  version_past v n h = omega (arith, version_got v n h, number_short s 0 v n (version_number v n h))
