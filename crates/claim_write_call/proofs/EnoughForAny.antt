-- With enough of everything, claim writing refuses the table or writes its claim: that is no longer than W + 5 bytes, and W is at most 2,360,320.
--     no_space_is_short     where the answer is 12, the space is shorter than W + 5 bytes
--     refused_or_written    with memory and budget of the largest W and a space of 5 bytes more, the answer is never 7, 8 or 12
use mathlib.Core.Path.{sym, ap, ◌≡◌, ◌∙◌}
use mathlib.Core.List.{List}
use Prim.Native.Nat.{ℕ, ◌+◌, ◌≤◌, ◌<◌}
use native.Mathlib.Omega.{arith}
use lib.ListN.{length}
use Rattle.numbers.specs.Reading.{got}
use Rattle.files.specs.Table.{Table, W, most_facts}
use Rattle.files.specs.File.{table_at}
use Rattle.files.proofs.WLaws.{W_max}
use Rattle.files.proofs.TableLaws.{table_sound}
use Rattle.model.proofs.FactCounts.{exceeds_below_W}
use Rattle.check_call.specs.Checking as check
use Rattle.check_call.specs.Answer.{Short}
use Rattle.check_call.proofs.Unique.{got_table}
use Rattle.claim_reader.proofs.ClaimLength.{claim_length}
use Rattle.claim_write_call.specs.WriteAnswer.{WriteAnswer, NoSpace}
use Rattle.claim_write_call.specs.ClaimWriting as writing
use Rattle.claim_write_call.specs.ClaimWriting.{ClaimOf, ClaimWritten}
use Rattle.claim_write_call.specs.AnyTable.{RefusedOrWritten, refused, written}

claim_of_length : {s bytes : List ℕ} {T : Table} → ClaimOf s T bytes → length bytes ≤ W T + 5
claim_of_length {T = T} c = rw c.written (claim_length (W T) c.positions c.facts.ascending)

-- the memory that is too short is shorter than W
short_below : {T : Table} {budget w : ℕ} {m m' : List ℕ} → check.OfTable T budget m (Short w) m' → length m < W T
short_below (check.short i) = i

module _ {s : List ℕ} {budget : ℕ} {m d : List ℕ} where
  pub no_space_is_short : {T : Table} {n needed : ℕ} {m' d' : List ℕ} → table_at s ≡ got T n → ClaimWritten s budget m d (NoSpace needed) m' d'
      → length d < W T + 5
  no_space_is_short e (writing.no_space c of l z) = omega (arith, claim_of_length of, ap W (got_table (sym of.is ∙ e)))

  pub refused_or_written : {a : WriteAnswer} {m' d' : List ℕ} → most_facts ≤ length m → most_facts ≤ budget → most_facts + 5 ≤ length d
      → ClaimWritten s budget m d a m' d' → RefusedOrWritten a
  refused_or_written h b l (writing.refused c) = refused
  refused_or_written h b l (writing.short (check.read {T} {next} e o)) =
      absurd (omega (arith, short_below o, W_max T (table_sound s T next e)))
  refused_or_written h b l (writing.over (check.read {T} {next} e (check.over i x z))) =
      let sound = table_sound s T next e in
      absurd (omega (arith, W_max T sound, exceeds_below_W sound x))
  refused_or_written h b l (writing.no_space {T} c of i z) =
      absurd (omega (arith, claim_of_length of, W_max T (table_sound s T of.next of.is)))
  refused_or_written h b l (writing.written c of i) = written
