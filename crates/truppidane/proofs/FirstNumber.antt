-- The first of the numbers that tell an answer is its number.
use mathlib.Core.Path.{◌≡◌, ap}
use mathlib.Core.List.{List, ◌∷◌}
use Prim.Native.Nat.{ℕ}
use lib.ListN.{get_or}

pub first_of : {ns rest : List ℕ} {number : ℕ} → ns ≡ number ∷ rest → get_or ns 0 0 ≡ number
first_of e = ap (λ (ns : List ℕ). get_or ns 0 0) e
