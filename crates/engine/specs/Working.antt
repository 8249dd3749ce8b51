-- What the engine's work comes to: a look over every use, or marks put until nothing lacks.
use Rattle.std.specs.Prelude.{Bool, true, false, List, ℕ, ◌<◌}
use Rattle.uses.specs.declared.lines.Pass.{Pass}
use Rattle.uses.specs.Uses.{Lacks}
use Rattle.uses.specs.Passing.{Puts, Looked}

-- marks were put until nothing lacked, or none was left
pub record Settled (U : ℕ → ℕ → ℕ → Type 0) (b r : Pass) (m m' : List ℕ) : Type 0 where
  pub puts : Puts U b r m m'
  pub closed : 0 < r.left → (y : ℕ) → ¬ Lacks U m' y

-- work that looks leaves the memory as it is
pub data Worked (U : ℕ → ℕ → ℕ → Type 0) : Bool → Pass → Pass → List ℕ → List ℕ → Type 0 where
  looked : {b r : Pass} {m : List ℕ} → Looked U b r m → Worked U false b r m m
  settled : {b r : Pass} {m m' : List ℕ} → Settled U b r m m' → Worked U true b r m m'
