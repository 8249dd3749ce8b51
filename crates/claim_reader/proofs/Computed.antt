-- The definition of a claim's file computes: whoever evaluates it names `claims`, and nothing else, on the `unfolding` line.
use mathlib.Core.Path.{◌≡◌, refl}
use mathlib.Core.List.{List}
use Prim.Native.Nat.{ℕ}
use Rattle.numbers.specs.Reading.{Out, groups_at, number_at, field_at, version_at}
use Rattle.claim_reader.specs.ClaimFile.{count_at, position_at, positions_at, rest_at, claim_at}

-- the positions of a file, ready to compute: the one name to unfold
unfoldable pub claims : ℕ → List ℕ → Out (List ℕ)
unfolding claim_at count_at rest_at positions_at position_at version_at field_at number_at groups_at
claims w s = claim_at w s

pub claims_is : (w : ℕ) (s : List ℕ) → claims w s ≡ claim_at w s
unfolding claims
claims_is w s = refl
