-- A file that is cut answers as the whole would: what a contract allows for the first bytes of a table's file, and of a claim's, it allows for the
-- whole files. Of a table's file 32,081 bytes are enough, and of a claim's 9 more than the largest W; so a program may read so much and no more.
use mathlib.Core.Path.{sym, ◌∙◌}
use mathlib.Core.List.{List}
use Prim.Native.Nat.{ℕ, ◌+◌, ◌≤◌}
use native.Mathlib.Omega.{arith}
use lib.ListN.{take}
use Rattle.files.specs.Table.{Table, W, most_facts}
use Rattle.files.proofs.TableLaws.{table_sound}
use Rattle.files.proofs.WLaws.{W_max}
use Rattle.files.proofs.CutTable.{table_reach, table_cut}
use Rattle.check_call.specs.Answer.{Answer}
use Rattle.check_call.specs.Checking as check
use Rattle.check_call.specs.Checking.{Checked}
use Rattle.claim_reader.proofs.CutClaim.{claim_cut}
use Rattle.claim_check_call.specs.ClaimAnswer.{ClaimAnswer}
use Rattle.claim_check_call.specs.ClaimChecking as claims
use Rattle.claim_check_call.specs.ClaimChecking.{AgainstTable, ClaimChecked}
use Rattle.claim_write_call.specs.WriteAnswer.{WriteAnswer}
use Rattle.claim_write_call.specs.ClaimWriting as writing
use Rattle.claim_write_call.specs.ClaimWriting.{ClaimOf, ClaimWritten}

against_cut : {T : Table} {c m m' : List ℕ} {a : ClaimAnswer} (k : ℕ) → W T + 9 ≤ k → AgainstTable T (take k c) m a m' → AgainstTable T c m a m'
against_cut k far (claims.short l) = claims.short l
against_cut {T} {c} k far (claims.claim_refused h e) = claims.claim_refused h (sym (claim_cut (W T) c k far) ∙ e)
against_cut {T} {c} k far (claims.claim_read h e o) = claims.claim_read h (sym (claim_cut (W T) c k far) ∙ e) o

module _ {s : List ℕ} (j : ℕ) (far : table_reach ≤ j) where
  pub check_cut : {budget : ℕ} {m m' : List ℕ} {a : Answer} → Checked (take j s) budget m a m' → Checked s budget m a m'
  check_cut (check.refused e) = check.refused (sym (table_cut s j far) ∙ e)
  check_cut (check.read e o) = check.read (sym (table_cut s j far) ∙ e) o

  pub claim_check_cut : {c m m' : List ℕ} {a : ClaimAnswer} (k : ℕ) → most_facts + 9 ≤ k → ClaimChecked (take j s) (take k c) m a m'
      → ClaimChecked s c m a m'
  claim_check_cut k long (claims.table_refused e) = claims.table_refused (sym (table_cut s j far) ∙ e)
  claim_check_cut k long (claims.table_read {T} {next} e o) =
      let is = sym (table_cut s j far) ∙ e in
      claims.table_read is (against_cut k (omega (arith, W_max T (table_sound s T next is))) o)

  claim_of_cut : {T : Table} {bytes : List ℕ} → ClaimOf (take j s) T bytes → ClaimOf s T bytes
  claim_of_cut of =
      record {
        next = of.next;
        is = sym (table_cut s j far) ∙ of.is;
        positions = of.positions;
        facts = of.facts;
        written = of.written;
      }

  pub claim_writing_cut : {budget : ℕ} {m d m' d' : List ℕ} {a : WriteAnswer} → ClaimWritten (take j s) budget m d a m' d'
      → ClaimWritten s budget m d a m' d'
  claim_writing_cut (writing.refused c) = writing.refused (check_cut c)
  claim_writing_cut (writing.short c) = writing.short (check_cut c)
  claim_writing_cut (writing.over c) = writing.over (check_cut c)
  claim_writing_cut (writing.no_space c of l z) = writing.no_space (check_cut c) (claim_of_cut of) l z
  claim_writing_cut (writing.written c of l) = writing.written (check_cut c) (claim_of_cut of) l
