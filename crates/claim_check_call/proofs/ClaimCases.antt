-- What a result of the claim check tells, once it is known what the readers answer.
--     table_was_read, claim_was_read    the cases that are left where the table was read, and where the claim was read too
--     Worked, worked                    then there is a finding: the answer tells it, the first W bytes follow it, and the others are as they were
--     answer_by_finding                 so what is found of the claimed facts decides the answer
use mathlib.Core.Path.{◌≡◌, refl, sym, ap, ◌∙◌}
use mathlib.Core.List.{List}
use Prim.Native.Nat.{ℕ, ◌≤◌}
use native.Mathlib.Omega.{arith}
use lib.ListN.{length, take, drop, replicate}
use Rattle.numbers.specs.Reading.{got}
use Rattle.numbers.proofs.ReadingLaws.{never}
use Rattle.files.specs.Table.{Table, W}
use Rattle.files.specs.File.{table_at}
use Rattle.model.specs.Memory.{Holds}
use Rattle.model.specs.Claims.{Claimed, Finding, Finds, accepted, lacks_start, not_closed, allows_error}
use Rattle.model.proofs.Unique.{finding_same}
use Rattle.check_call.proofs.Unique.{got_table}
use Rattle.claim_reader.specs.ClaimFile.{claim_at}
use Rattle.claim_check_call.specs.ClaimAnswer.{ClaimAnswer}
use Rattle.claim_check_call.specs.Answers.{answer_of}
use Rattle.claim_check_call.specs.ClaimChecking.{
  OfPositions,
  done,
  lacking,
  missing,
  allowing,
  AgainstTable,
  short,
  claim_refused,
  claim_read,
  ClaimChecked,
  table_refused,
  table_read,
}

-- ---- the cases that are left

got_positions : {ps qs : List ℕ} {n n' : ℕ} → got ps n ≡ got qs n' → ps ≡ qs
got_positions e = cc

pub table_was_read : {s c m m' : List ℕ} {a : ClaimAnswer} {T : Table} {n : ℕ} → table_at s ≡ got T n → ClaimChecked s c m a m' → AgainstTable T c m a m'
table_was_read e (table_refused e') = let q = sym e ∙ e' in never (cc)
table_was_read e (table_read e' o) = rw (got_table (sym e ∙ e')) o

pub claim_was_read : {T : Table} {c ps m m' : List ℕ} {a : ClaimAnswer} {n : ℕ} → W T ≤ length m → claim_at (W T) c ≡ got ps n → AgainstTable T c m a m'
    → OfPositions T ps m a m'
claim_was_read room e (short l) = absurd (omega arith)
claim_was_read room e (claim_refused _ e') = let q = sym e ∙ e' in never (cc)
claim_was_read room e (claim_read _ e' o) = rw (got_positions (sym e ∙ e')) o

-- ---- the finding

-- the first W bytes after it
abbrev pub Left : Table → List ℕ → Finding → List ℕ → Type 0
Left T ps accepted m' = Holds T (Claimed T ps) m'
Left T ps (lacks_start t) m' = take (W T) m' ≡ replicate (W T) 0
Left T ps (not_closed p) m' = take (W T) m' ≡ replicate (W T) 0
Left T ps (allows_error row) m' = take (W T) m' ≡ replicate (W T) 0

pub record Worked (T : Table) (ps m : List ℕ) (a : ClaimAnswer) (m' : List ℕ) : Type 0 where
  pub finding : Finding
  pub found : Finds T (Claimed T ps) finding
  pub answer : a ≡ answer_of (length ps) finding
  pub bytes : Left T ps finding m'
  pub rest : drop (W T) m' ≡ drop (W T) m

pub worked : {T : Table} {ps m m' : List ℕ} {a : ClaimAnswer} → OfPositions T ps m a m' → Worked T ps m a m'
worked (done x) = record { finding = accepted; found = x.found; answer = refl; bytes = x.facts; rest = x.rest }
worked (lacking {t} x) =
    record { finding = lacks_start t; found = x.found; answer = refl; bytes = x.cleared.zeros; rest = x.cleared.rest }
worked (missing {p} x) =
    record { finding = not_closed p; found = x.found; answer = refl; bytes = x.cleared.zeros; rest = x.cleared.rest }
worked (allowing {row} x) =
    record { finding = allows_error row; found = x.found; answer = refl; bytes = x.cleared.zeros; rest = x.cleared.rest }

pub answer_by_finding : {T : Table} {ps m m' : List ℕ} {a : ClaimAnswer} {x : Finding} → Finds T (Claimed T ps) x → OfPositions T ps m a m'
    → a ≡ answer_of (length ps) x
answer_by_finding {ps = ps} f o = let w = worked o in w.answer ∙ ap (answer_of (length ps)) (finding_same w.found f)
