-- What a pass over a set of uses does, from the memory m to m', and from what it carries b to r. A pass that looks finds the smallest
-- position that lacks. A pass that puts leaves a trace of puts, each of a mark that lacked, and takes each off the number that is left. Where
-- none is left, nothing is done and nothing is claimed.
use Rattle.std.specs.Prelude.{◌≡◌, Bool, true, false, ◌⊎◌, List, ℕ, suc, ◌+◌, ◌<◌, ◌≤◌}
use Rattle.store.specs.Marking.{room, marked}
use Rattle.uses.specs.declared.lines.Pass.{Pass}
use Rattle.uses.specs.Uses.{Lacks}

-- uses put so many marks, one after the other, each where it lacked
pub data Grew (U : ℕ → ℕ → ℕ → Type 0) (m : List ℕ) : ℕ → List ℕ → Type 0 where
  none : Grew U m 0 m
  more : {k : ℕ} {m' : List ℕ} (y : ℕ) → Grew U m k m' → y < room m' → Lacks U m' y → Grew U m (suc k) (marked m' y)

-- uses put marks, and as many are taken off what is left
pub record Puts (U : ℕ → ℕ → ℕ → Type 0) (b r : Pass) (m m' : List ℕ) : Type 0 where
  pub count : ℕ
  pub grew : Grew U m count m'
  pub left : b.left ≡ r.left + count
  pub best : r.best ≡ b.best

-- the best after looking is the smallest of the best before and of what lacks
pub record Looked (U : ℕ → ℕ → ℕ → Type 0) (b r : Pass) (m : List ℕ) : Type 0 where
  pub left : r.left ≡ b.left
  pub least : 0 < b.left → (y : ℕ) → Lacks U m y → r.best ≤ y
  pub first : (r.best ≡ b.best) ⊎ Lacks U m r.best
  pub le : r.best ≤ b.best

-- what a pass does: one that looks leaves the memory as it is; one that puts, and put nothing though some were left, found nothing lacking
pub data Swept (U : ℕ → ℕ → ℕ → Type 0) : Bool → Pass → Pass → List ℕ → List ℕ → Type 0 where
  looks : {b r : Pass} {m : List ℕ} → Looked U b r m → Swept U false b r m m
  puts : {b r : Pass} {m m' : List ℕ} → Puts U b r m m' → (0 < r.left → r.left ≡ b.left → (y : ℕ) → ¬ Lacks U m y)
      → Swept U true b r m m'
