-- Of a file that is cut at w + 9 bytes or later, the claim reader gives what it gives of the whole, refusals with their places too. The count ends by
-- byte 5. A position takes no more bytes than it lies past the one before, and the first at most one more; so what is read of ascending positions
-- below w ends by byte w + 5. A number there looks at four bytes more, and the end of the file at one.
use mathlib.Core.Path.{◌≡◌, refl, ap}
use mathlib.Core.List.{List}
use Prim.Native.Nat.{ℕ, zero, suc, ◌+◌, ◌-◌, min, max, ◌≤◌}
use native.Mathlib.Omega.{arith}
use lib.ListN.{take}
use Rattle.numbers.specs.Reading.{got, version_at}
use Rattle.numbers.proofs.ReadingLaws.{parts}
use Rattle.numbers.proofs.NumberLaws.{number_past, number_short}
use Rattle.numbers.proofs.FieldLaws.{field_got, field_number}
use Rattle.numbers.proofs.VersionLaws.{version_past}
use Rattle.numbers.proofs.Looks.{Looks, then_same, looks_then, looks_got, field_looks, version_looks}
use Rattle.reader.proofs.EndLaws.{end_looks}
use Rattle.cells.specs.Rows.{push}
use Rattle.claim_reader.specs.ClaimFile.{count_at, position_at, positions_at, rest_at, claim_at}
use Rattle.claim_reader.proofs.PositionLaws.{positions_none, position_got, positions_first}

module _ (w : ℕ) where
  -- ---- the count

  count_looks : Looks 8 (λ s at. count_at w s)
  unfolding count_at
  count_looks = looks_then version_looks (λ s at v n e. field_looks 0 (w + 1))

  count_past : (s : List ℕ) (j n : ℕ) → count_at w s ≡ got j n → n ≤ 1 + min 4 (max 1 w)
  unfolding count_at
  count_past s j n e =
      let v = parts (version_at s) _ j n e in
      let number = field_number s v.place 0 (w + 1) j n v.rest in
      omega (
        arith,
        version_past s v.first v.place v.was,
        field_got s v.place 0 (w + 1) j n v.rest,
        number_past s v.place j n number,
        number_short s v.place j n number,
      )

  -- ---- the positions

  -- how many bytes positions past `last` take at most
  most : (least last : ℕ) → ℕ
  most least last = w - suc last + (1 - least)

  position_looks : (least last : ℕ) → Looks 4 (position_at w least last)
  unfolding position_at
  position_looks least last = looks_then (field_looks least (w - last)) (λ s at d n e. looks_got (last + d))

  module _ (s : List ℕ) where
    -- a position takes no more of them than it leaves fewer to those past it
    position_past : (least last at p n : ℕ) → position_at w least last s at ≡ got p n → n + most 1 p ≤ at + most least last
    unfolding most
    position_past least last at p n e =
        let k = position_got w least last s at p n e in
        omega (arith, number_short s at (p - last) n (field_number s at least (w - last) (p - last) n k.distance))

    positions_past : (j least last at : ℕ) (ps : List ℕ) (n : ℕ) → positions_at w j least last s at ≡ got ps n → n ≤ at + most least last
    positions_past zero least last at ps n e =
        let none = positions_none w least last s at in
        let here : at ≡ n = cc in
        omega arith
    positions_past (suc j) least last at ps n e =
        let f = positions_first w j least last s at ps n e in
        omega
        (arith, position_past least last at f.p f.next f.was, positions_past j 1 f.p f.next f.others.rest n f.others.was)

    module _ (k : ℕ) where
      positions_same : (j least last at : ℕ) → at + most least last + 4 ≤ k
          → positions_at w j least last (take k s) at ≡ positions_at w j least last s at
      unfolding positions_at
      positions_same zero least last at h = refl
      positions_same (suc j) least last at h =
          then_same (position_at w least last s at) ((position_looks least last).same s k at (omega arith))
          (λ p n e. ap (push p) (positions_same j 1 p n (omega (arith, position_past least last at p n e))))

      rest_same : (j at : ℕ) → at + most 0 0 + 4 ≤ k → rest_at w j (take k s) at ≡ rest_at w j s at
      unfolding rest_at
      rest_same j at h =
          then_same (positions_at w j 0 0 s at) (positions_same j 0 0 at h)
          (λ ps n e. (end_looks ps).same s k n (omega (arith, positions_past j 0 0 at ps n e)))

-- ---- the claim

pub claim_cut : (w : ℕ) (s : List ℕ) (k : ℕ) → w + 9 ≤ k → claim_at w (take k s) ≡ claim_at w s
unfolding claim_at most
claim_cut w s k h =
    then_same (count_at w s) ((count_looks w).same s k 0 (omega arith)) (λ j n e. rest_same w s k j n (omega (arith, count_past w s j n e)))
