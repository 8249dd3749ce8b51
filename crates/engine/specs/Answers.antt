-- What is answered (01, "Working memory and claims", "Budget"; "What comes back", numbers 0, 8 and 10).
use Rattle.std.specs.Prelude.{List, Option, Some, None, ℕ, ◌≤◌}
use Rattle.files.specs.Table.{Table}
use Rattle.model.specs.Memory.{Relations, Marked, FactCount, Exceeds}
use Rattle.model.specs.Claims.{First, Missing}
use Rattle.store.specs.Marking.{Clear}

-- the memory holds the least relations, of c facts, within the budget; or there are more, and the memory is clear
abbrev pub Ran : Table → ℕ → Option ℕ → List ℕ → Type 0
Ran T budget (Some c) m = Relations T m × FactCount T c × (c ≤ budget)
Ran T budget None m = Clear m × Exceeds T budget

-- the smallest position that is missing by the rules; or that none is
abbrev pub Confirmed : Table → List ℕ → Option ℕ → Type 0
Confirmed T m (Some p) = First (Missing T (Marked T m)) p
Confirmed T m None = (p : ℕ) → ¬ Missing T (Marked T m) p
