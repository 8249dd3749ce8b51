-- The guarantees that act on a thread's facts (01, "The rules", 2 and 3). Only contracts of private functions cite it.
use Rattle.std.specs.Prelude.{◌≡◌, List, ℕ}
use Rattle.positions.specs.Plans.{Plan, g_at}
use Rattle.store.specs.Marking.{Has}

-- thread e has the guarantee from g to g', and is not t
abbrev pub Acts : Plan → ℕ → List ℕ → ℕ → ℕ → ℕ → Type 0
Acts s t m g g' e = (e ≡ t → ⊥) × Has m (g_at s e g g')
