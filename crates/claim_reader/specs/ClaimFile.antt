-- A claim file (document 01, "Working memory and claims"): "A claim is: version 1; count 0..W; the first position; then each further position
-- as its distance from the one before, at least 1. Every position is below W." The first position is its distance from 0, which may be 0;
-- so one definition serves for the first and for the further ones.
use Rattle.std.specs.Prelude.{ℕ, zero, suc, ◌+◌, ◌-◌, ◌≤◌, ◌<◌, length}
use mathlib.Core.List.{List, [], ◌∷◌, flat_map}
use Rattle.numbers.specs.Reading.{Out, got, then, field_at, version_at}
use Rattle.numbers.specs.Writing.{bytes_of}
use Rattle.cells.specs.Rows.{push}
use Rattle.reader.specs.Ends.{at_end}

-- ---- reading, the first fault wins

-- version 1; count 0..w
unfoldable pub count_at : ℕ → List ℕ → Out ℕ
count_at w s = then (version_at s) λ _ next. field_at s next 0 (w + 1)

-- a position below w, as its distance from `last`, at least `least`: else 4, at its first byte
unfoldable pub position_at : (w least last : ℕ) → List ℕ → ℕ → Out ℕ
position_at w least last s at = then (field_at s at least (w - last)) λ distance next. got (last + distance) next

-- k positions; each one after the first is at least 1 from the one before
unfoldable pub positions_at : (w k least last : ℕ) → List ℕ → ℕ → Out (List ℕ)
positions_at w zero least last s at = got [] at
positions_at w (suc k) least last s at = then (position_at w least last s at) λ p next. push p (positions_at w k 1 p s next)

-- the positions, and nothing after them
unfoldable pub rest_at : (w k : ℕ) → List ℕ → ℕ → Out (List ℕ)
rest_at w k s at = then (positions_at w k 0 0 s at) λ ps next. at_end ps s next

-- the positions that the file s claims, where W is w
unfoldable pub claim_at : ℕ → List ℕ → Out (List ℕ)
claim_at w s = then (count_at w s) λ k next. rest_at w k s next

-- ---- writing

-- each position's distance from the one before, and the first one's from `last`
unfoldable pub distances_from : ℕ → List ℕ → List ℕ
distances_from last [] = []
distances_from last (p ∷ ps) = (p - last) ∷ distances_from p ps

-- the bytes of numbers, one after the other
unfoldable pub bytes_of_all : List ℕ → List ℕ
unfolding flat_map
bytes_of_all ns = flat_map bytes_of ns

-- the file of a claim: version 1; the count; the first position; the distances
unfoldable pub claim_bytes : List ℕ → List ℕ
claim_bytes ps = bytes_of_all (1 ∷ length ps ∷ distances_from 0 ps)

-- ---- the positions of a claim

-- strictly ascending, each below w, the first at least `least`
abbrev pub AscendingFrom : ℕ → ℕ → List ℕ → Type 0
AscendingFrom w least [] = Unit
AscendingFrom w least (p ∷ ps) = (least ≤ p) × (p < w) × AscendingFrom w (p + 1) ps

abbrev pub AscendingBelow : ℕ → List ℕ → Type 0
AscendingBelow w ps = AscendingFrom w 0 ps
