-- Positions that were read are strictly ascending, and below w.
use mathlib.Core.Path.{◌≡◌}
use mathlib.Core.List.{List}
use Prim.Native.Nat.{ℕ, zero, suc, ◌+◌}
use Rattle.numbers.specs.Reading.{got}
use Rattle.claim_reader.specs.ClaimFile.{positions_at, AscendingFrom}
use Rattle.claim_reader.proofs.PositionLaws.{none_read, position_got, positions_first}

module _ (w : ℕ) (s : List ℕ) where
  pub positions_ascending : (k least last at : ℕ) (ps : List ℕ) (n : ℕ) → positions_at w k least last s at ≡ got ps n
      → AscendingFrom w (last + least) ps
  unfolding positions_at
  positions_ascending zero least last at ps n e = rw (none_read e) tt
  positions_ascending (suc k) least last at ps n e =
      let f = positions_first w k least last s at ps n e in
      let h = position_got w least last s at f.p f.next f.was in
      rw f.others.whole (h.low, h.below, positions_ascending k 1 f.p f.next f.others.rest n f.others.was)
