-- From what each step answers to what is found: the steps come in the order 9, 10, 11, and a step that finds nothing gives what the next takes
-- for granted.
--     closed_marked                    the marked facts have the start facts, and none is missing
--     row_allows, nothing_found        an error is allowed; or none is
use mathlib.Core.Path.{◌≡◌}
use mathlib.Core.List.{List}
use Prim.Native.Nat.{ℕ}
use Rattle.files.specs.Table.{Table, Sound}
use Rattle.model.specs.Rules.{Starts, ClosedWithStarts}
use Rattle.model.specs.Memory.{Marked}
use Rattle.model.specs.Claims as model
use Rattle.model.specs.Claims.{Missing, Finds}
use Rattle.model.proofs.Claims.{marked_closed}
use Rattle.verdict.specs.declared.search.Witness.{Witness}
use Rattle.verdict.specs.declared.search.Verdict.{Verdict}
use Rattle.verdict.specs.declared.search.Verdict.TheVariants.{Safe, Possible}
use Rattle.verdict.specs.ErrorRows.{Judged}
use Rattle.verdict.proofs.Answers.{possible_row, safe_none}

-- ---- 10

pub closed_marked : {T : Table} {m : List ℕ} → Sound T → Starts T (Marked T m) → ((p : ℕ) → ¬ Missing T (Marked T m) p)
    → ClosedWithStarts T (Marked T m)
closed_marked {m = m} sound starts none = record { starts = starts; closed = marked_closed sound m none }

-- ---- 11

module _ {T : Table} {m : List ℕ} (c : ClosedWithStarts T (Marked T m)) {r : Verdict} (j : Judged T m r) where
  pub nothing_found : r ≡ Safe → Finds T (Marked T m) model.accepted
  nothing_found e = model.whole c (safe_none (rw e at j))

  pub row_allows : {witness : Witness} → r ≡ Possible witness → Finds T (Marked T m) (model.allows_error witness.row)
  row_allows e = model.allowing c (possible_row (rw e at j))
