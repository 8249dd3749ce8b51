-- Claims and the working memory (document 01, "Working memory and claims": "One byte per fact, 1 if it holds, else 0.").
use Rattle.std.specs.Prelude.{Bool, true, false, ◌≡◌, ℕ, zero, suc, ◌+◌, ◌<◌, eqb, length}
use mathlib.Core.List.{List, [], ◌∷◌, Memᴰ}
use Rattle.model.specs.Memory.{mark, Says}

-- p in front of the list, where the test passes
abbrev pub only : Bool → ℕ → List ℕ → List ℕ
only true p ps = p ∷ ps
only false p ps = ps

-- of the k positions from p on, those that are marked with 1
unfoldable pub marked_from : List ℕ → (p k : ℕ) → List ℕ
marked_from mem p zero = []
marked_from mem p (suc k) = only (eqb (mark mem p) 1) p (marked_from mem (p + 1) k)

-- the positions below w that are marked with 1, ascending
unfoldable pub positions_in : ℕ → List ℕ → List ℕ
positions_in w mem = marked_from mem 0 w

-- a memory of w bytes in which a byte is 1 if its position is one of ps, else 0
pub record Marks (w : ℕ) (ps mem : List ℕ) : Type 0 where
  pub long : length mem ≡ w
  pub says : (p : ℕ) → p < w → Says (Memᴰ p ps) (mark mem p)
