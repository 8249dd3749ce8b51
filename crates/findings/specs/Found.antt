-- What is found of the facts that a memory marks (01, "What comes back": the answers 0, 9, 10 and 11 of a claim check).
use Rattle.std.specs.Prelude.{List, ℕ, ⊤, Option, Some, None, Result, Ok, Err}
use Rattle.files.specs.Table.{Table}
use Rattle.model.specs.Rules.{Starts}
use Rattle.model.specs.Memory.{Marked}
use Rattle.model.specs.Claims as model
use Rattle.findings.specs.declared.find.Fault.{Fault}
use Rattle.findings.specs.declared.find.Fault.TheVariants.{LacksStart, NotClosed, AllowsError}

-- t is the smallest thread that lacks its start fact; or none does
abbrev pub Started : Table → List ℕ → Option ℕ → Type 0
Started T m (Some t) = model.First (model.LacksStart T (Marked T m)) t
Started T m None = Starts T (Marked T m)

-- what a search comes back with: no fault, or the first
abbrev pub Finding : Type 0
Finding = Result ⊤ Fault

-- the model's finding that it stands for
abbrev pub finding_of : Finding → model.Finding
finding_of (Ok found) = model.accepted
finding_of (Err (LacksStart thread)) = model.lacks_start thread
finding_of (Err (NotClosed position)) = model.not_closed position
finding_of (Err (AllowsError row)) = model.allows_error row
