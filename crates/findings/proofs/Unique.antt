-- Two results that a contract allows are equal: what is found, with every byte of the memory, and the smallest thread that lacks its start fact.
-- `Post` is the contract as the prover reads it from the source, and `Pre` what it asks.
use mathlib.Core.Path.{◌≡◌, refl, sym, ap, ◌∙◌}
use mathlib.Core.List.{List}
use Prim.Native.Nat.{ℕ}
use Rattle.std.specs.Prelude.{Option, Some, None, Ok, Err}
use contract.Lifetimes.{Lfts}
use denote.Triple.Clauses.{AtExit}
use borrow.Fn.Kinds.{Dens, ended_of}
use Rattle.files.specs.Table.{Table}
use Rattle.model.specs.Rules.{Fact}
use Rattle.model.specs.Claims as model
use Rattle.model.proofs.Unique.{first_same, finding_same}
use Rattle.findings.specs.declared.find.Fault.TheVariants.{LacksStart, NotClosed, AllowsError}
use Rattle.findings.specs.Found.{Finding, Started, finding_of}
use Rattle.findings.proofs.starts.lacking_start.Reads as lacking-start
use Rattle.findings.proofs.starts.lacking_start.Kinds as lacking-start-kinds
use Rattle.findings.proofs.find.find.Reads as find
use Rattle.findings.proofs.find.find.Kinds as find-kinds

-- ---- one table

pub started_same : (T : Table) (m : List ℕ) (t u : Option ℕ) → Started T m t → Started T m u → t ≡ u
started_same T m (Some t) (Some u) f f' = ap Some (first_same f f')
started_same T m (Some t) None f s = absurd (f.here.not (s t f.here.thread))
started_same T m None (Some u) s f = absurd (f.here.not (s u f.here.thread))
started_same T m None None s s' = refl

-- the case that stands for a finding, so that a case is determined by its finding
abbrev case_of : model.Finding → Finding
case_of model.accepted = Ok tt
case_of (model.lacks_start t) = Err (LacksStart t)
case_of (model.not_closed p) = Err (NotClosed p)
case_of (model.allows_error row) = Err (AllowsError row)

case_of_finding : (x : Finding) → case_of (finding_of x) ≡ x
case_of_finding (Ok found) = refl
case_of_finding (Err (LacksStart t)) = refl
case_of_finding (Err (NotClosed p)) = refl
case_of_finding (Err (AllowsError row)) = refl

pub found_same : {T : Table} {S : Fact → Type 0} (x y : Finding) → model.Finds T S (finding_of x) → model.Finds T S (finding_of y) → x ≡ y
found_same x y f g = sym (case_of_finding x) ∙ ap case_of (finding_same f g) ∙ case_of_finding y

-- ---- the contracts as the prover reads them from the source

pub lacking_start_fixes : (κs : Lfts 3) (a : Dens κs lacking-start-kinds.ps) (x x' : Option ℕ)
    (s s' : AtExit (ended_of 3 lacking-start-kinds.ps lacking-start-kinds.r) κs)
    → lacking-start.Pre κs a → lacking-start.Post κs a x s → lacking-start.Post κs a x' s' → x ≡ x'
lacking_start_fixes κs a x x' s s' (T, sound, plan, of) p q = started_same T _ x x' (p T sound plan of) (q T sound plan of)

pub find_fixes : (κs : Lfts 3) (a : Dens κs find-kinds.ps) (x x' : Finding)
    (s s' : AtExit (ended_of 3 find-kinds.ps find-kinds.r) κs) → find.Pre κs a → find.Post κs a x s → find.Post κs a x' s'
    → (x ≡ x') × (s.1.0.now ≡ s'.1.0.now)
find_fixes κs a x x' s s' (T, stored, _) (p, kept) (q, kept') =
    (found_same x x' (p T stored) (q T stored), kept ∙ sym kept')
