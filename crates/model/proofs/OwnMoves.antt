-- A thread's own guarantee does not act on it: rule 2 asks for another thread's. One thread with one step row has three facts, and no fact that it
-- is at the new shared store with its old local store.
use mathlib.Core.List.{[], ◌∷◌}
use Rattle.files.specs.Table.{Table}
use Rattle.model.specs.Rules.{G, P}
use Rattle.model.proofs.Decide.{decided}
use Rattle.model.proofs.Decide.Least.{Exact, exact?}

-- one thread, which steps from 0, 0 to 1, 1
unfoldable pub one_step : Table
one_step =
    record {
      n = 1;
      G = 2;
      L = 2;
      F = 0;
      failed = 0;
      g₀ = 0;
      locals = 0 ∷ [];
      steps = record { t = 0; g = 0; l = 0; g' = 1; l' = 1 } ∷ [];
      pushes = [];
      pops = [];
      errors = [];
    }

pub own_guarantee_does_not_act : Exact one_step 2 (G 0 0 1 ∷ P 0 0 0 0 0 ∷ P 0 0 0 1 1 ∷ [])
unfolding one_step exact?
own_guarantee_does_not_act = decided (exact? one_step 2 (G 0 0 1 ∷ P 0 0 0 0 0 ∷ P 0 0 0 1 1 ∷ [])) tt
