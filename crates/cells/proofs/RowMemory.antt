-- A row in memory.
--     five_cells   a row of five cells, cell by cell
--     sets_whole   a run of stores over the whole memory leaves nothing of what was there
--     sets_past    past a run of stores the memory is as it was
use mathlib.Core.Path.{◌≡◌, refl, ◌∙◌}
use mathlib.Core.List.{List, [], ◌∷◌, append-nil}
use Prim.Native.Nat.{ℕ, suc, ◌+◌, ◌≤◌}
use native.Mathlib.Omega.{arith}
use native.Mathlib.Nat.{zero-add}
use lib.ListN.{length, get_or}
use lib.Seq.{sets, sets-eq, drop-length, get_or-set_other}

-- a row of five cells, cell by cell
pub five_cells : (r : List ℕ) → length r ≡ 5 → r ≡ get_or r 0 0 ∷ get_or r 1 0 ∷ get_or r 2 0 ∷ get_or r 3 0 ∷ get_or r 4 0 ∷ []
five_cells [] h = absurd (omega arith)
five_cells (_ ∷ []) h = absurd (omega arith)
five_cells (_ ∷ _ ∷ []) h = absurd (omega arith)
five_cells (_ ∷ _ ∷ _ ∷ []) h = absurd (omega arith)
five_cells (_ ∷ _ ∷ _ ∷ _ ∷ []) h = absurd (omega arith)
five_cells (_ ∷ _ ∷ _ ∷ _ ∷ _ ∷ []) h = refl
five_cells (_ ∷ _ ∷ _ ∷ _ ∷ _ ∷ _ ∷ _) h = absurd (omega arith)

pub sets_whole : (vs d : List ℕ) → length vs ≡ length d → sets d 0 vs ≡ vs
sets_whole vs d h = sets-eq vs d 0 (omega arith) ∙ rw (zero-add (length vs), h, drop-length) (append-nil vs)

pub sets_past : (vs d : List ℕ) (i k : ℕ) → i + length vs ≤ k → get_or (sets d i vs) k 0 ≡ get_or d k 0
sets_past [] d i k h = refl
sets_past (v ∷ vs) d i k h = sets_past vs _ (suc i) k (omega arith) ∙ get_or-set_other d i k v 0 (λ e. absurd (omega arith))
