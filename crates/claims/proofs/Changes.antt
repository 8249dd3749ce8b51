-- Which refusals change what (document 01, "What comes back": "1 to 7 change nothing; 8 to 12 set the first W bytes to 0."), by the number of each
-- call's answer.
use mathlib.Core.Path.{◌≡◌, refl}
use mathlib.Core.List.{List}
use Prim.Native.Nat.{ℕ, ◌≤◌}
use native.Mathlib.Omega.{arith}
use Rattle.numbers.specs.declared.refusals.Refusal.{Refusal}
use Rattle.numbers.specs.Refusals.{told_of}
use Rattle.numbers.proofs.RefusalLaws.{told_to_6}
use Rattle.numbers.specs.Reading.{got}
use Rattle.files.specs.Table.{Table, W}
use Rattle.files.specs.File.{table_at}
use Rattle.store.specs.Clearing.{Cleared}
use Rattle.check_call.specs.Answer.{Answer}
use Rattle.check_call.specs.Answers.{reply_of}
use Rattle.check_call.specs.Checking as check
use Rattle.check_call.specs.Checking.{Checked}
use Rattle.claim_check_call.specs.ClaimAnswer.{ClaimAnswer}
use Rattle.claim_write_call.specs.WriteAnswer.{WriteAnswer}
use Rattle.claim_check_call.specs.Answers as claim
use Rattle.claim_check_call.specs.ClaimChecking as claims
use Rattle.claim_check_call.specs.ClaimChecking.{ClaimChecked}
use Rattle.claim_write_call.specs.Answers.{write_reply_of}
use Rattle.claim_write_call.specs.ClaimWriting as writing
use Rattle.claim_write_call.specs.ClaimWriting.{ClaimWritten}
use Rattle.claims.specs.Owed.{Changes}

unchanged : {s m : List ℕ} {number : ℕ} → number ≤ 7 → Changes s m m number
unchanged l = record { nothing = λ _ _. refl; clears = λ h. absurd (omega arith) }

refused : {s m : List ℕ} (x : Refusal) → Changes s m m (told_of x).number
refused x = unchanged (omega (arith, told_to_6 x))

finished : {s m m' : List ℕ} → Changes s m m' 0
finished = record { nothing = λ h. absurd (omega arith); clears = λ h. absurd (omega arith) }

clearing : {s m m' : List ℕ} {number : ℕ} {T : Table} {n : ℕ} → 8 ≤ number → table_at s ≡ got T n → Cleared (W T) m m' → Changes s m m' number
clearing l e c = record { nothing = λ _ h. absurd (omega arith); clears = λ _. (_, _, e, c) }

table_changes : {s : List ℕ} {T : Table} {n budget : ℕ} {m m' : List ℕ} {a : Answer} → table_at s ≡ got T n → check.OfTable T budget m a m'
    → Changes s m m' (reply_of a).number
table_changes e (check.short l) = unchanged (omega arith)
table_changes e (check.over h x c) = clearing (omega arith) e c
table_changes e (check.done h f) = finished

pub check_changes : {s : List ℕ} {budget : ℕ} {m m' : List ℕ} {a : Answer} → Checked s budget m a m' → Changes s m m' (reply_of a).number
check_changes (check.refused {x} e) = refused x
check_changes (check.read e o) = table_changes e o

against_changes : {s : List ℕ} {T : Table} {n : ℕ} {c m m' : List ℕ} {a : ClaimAnswer} → table_at s ≡ got T n → claims.AgainstTable T c m a m'
    → Changes s m m' (claim.claim_reply_of a).number
against_changes e (claims.short l) = unchanged (omega arith)
against_changes e (claims.claim_refused {x} h q) = refused x
against_changes e (claims.claim_read h q (claims.done x)) = finished
against_changes e (claims.claim_read h q (claims.lacking x)) = clearing (omega arith) e x.cleared
against_changes e (claims.claim_read h q (claims.missing x)) = clearing (omega arith) e x.cleared
against_changes e (claims.claim_read h q (claims.allowing x)) = clearing (omega arith) e x.cleared

pub claim_changes : {s c m m' : List ℕ} {a : ClaimAnswer} → ClaimChecked s c m a m' → Changes s m m' (claim.claim_reply_of a).number
claim_changes (claims.table_refused {x} e) = refused x
claim_changes (claims.table_read e o) = against_changes e o

-- and no refusal touches the space
pub write_changes : {s : List ℕ} {budget : ℕ} {m d m' d' : List ℕ} {a : WriteAnswer} → ClaimWritten s budget m d a m' d'
    → Changes s m m' (write_reply_of a).number × (1 ≤ (write_reply_of a).number → d' ≡ d)
write_changes (writing.refused c) = (check_changes c, λ _. refl)
write_changes (writing.short c) = (check_changes c, λ _. refl)
write_changes (writing.over c) = (check_changes c, λ _. refl)
write_changes (writing.no_space c of l z) = (clearing (omega arith) of.is z, λ _. refl)
write_changes (writing.written c of l) = (finished, λ h. absurd (omega arith))
