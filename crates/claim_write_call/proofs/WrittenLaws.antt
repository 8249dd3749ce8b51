-- What a claim that was written is worth.
--     written_claim             it is read as the positions of exactly the derivable facts, as many as the answer tells
--     written_within            it stands within the space, as lending its bytes asks
--     claim_one_to_one          writing is one to one: claims of the same bytes have the same positions, whichever tables they are of
--     safe_claim_accepted       where the verdict is safe, a claim check finds the written claim accepted
--     possible_claim_refused    and where it is possible, by the witness's row, that the claim allows an error by that row
use mathlib.Core.Path.{◌≡◌, refl, sym, ap, ◌∙◌}
use mathlib.Core.List.{List, [], ◌∷◌}
use Prim.Native.Nat.{ℕ, ◌+◌, ◌≤◌}
use native.Mathlib.Omega.{arith}
use lib.ListN.{length, take, drop}
use lib.Seq.{sets, length-sets, sets-eq, take_at, length-take-le}
use Rattle.files.specs.Table.{Table, W, most_facts}
use Rattle.files.proofs.WLaws.{W_max}
use Rattle.files.proofs.TableLaws.{table_sound}
use Rattle.model.specs.Claims.{Claimed, accepted, allows_error, Finds, whole, allowing}
use Rattle.model.proofs.Least.{derives_closed_with_starts}
use Rattle.model.proofs.Monotone.{finding_cast}
use Rattle.model.proofs.Unique.{fact_count_same}
use Rattle.verdict.specs.declared.search.Witness.{Witness}
use Rattle.verdict.specs.declared.search.Verdict.{Verdict}
use Rattle.verdict.specs.declared.search.Verdict.TheVariants.{Safe, Possible}
use Rattle.verdict.proofs.Answers.{possible_row, safe_none}
use Rattle.check_call.specs.Checking.{CheckDone}
use Rattle.check_call.proofs.Exactly.{check_done}
use Rattle.claim_reader.specs.ClaimFile.{AscendingFrom, AscendingBelow, claim_bytes}
use Rattle.claim_reader.specs.Marks.{positions_in}
use Rattle.claim_reader.proofs.RoundTrip.{claim_back, claim_bytes_inj}
use Rattle.claim_reader.proofs.ClaimIsModel.{written_counts}
use Rattle.claim_write_call.specs.WriteAnswer.{Written}
use Rattle.claim_write_call.specs.ClaimWriting.{ClaimOf, ClaimWritten, written}
use Rattle.claim_write_call.specs.ReadBack.{WrittenClaim}
use Rattle.claim_write_call.proofs.PositionsOfFacts.{claim_of_marks, claim_bytes_lem}

-- ---- what was written is read

-- bytes that were put at the start of a space are its first
sets_first : (bytes d : List ℕ) → length bytes ≤ length d → take (length bytes) (sets d 0 bytes) ≡ bytes
sets_first bytes d l = ap (take (length bytes)) (sets-eq bytes d 0 (omega arith)) ∙ take_at bytes (drop (0 + length bytes) d) (length bytes) refl

-- the claim of the marks that a finished check leaves
done_claim : {s : List ℕ} {budget : ℕ} {m : List ℕ} {count : ℕ} {verdict : Verdict} {m' : List ℕ} (k : CheckDone s budget m count verdict m')
    → let file = claim_bytes (positions_in (W k.table) m') in WrittenClaim s count verdict (length file) file
unfolding claim_of_marks
done_claim {m' = m'} k =
    let claim = claim_of_marks k in
    record {
      table = k.table;
      sound = k.sound;
      claim = claim;
      counts = fact_count_same k.table k.finished.counted (written_counts k.sound refl m' k.finished.relations);
      judged = k.finished.judged;
      reads = claim_back (W k.table) claim.positions (W_max k.table k.sound) claim.facts.ascending;
    }

pub written_claim : {s : List ℕ} {budget : ℕ} {m d : List ℕ} {count : ℕ} {verdict : Verdict} {bytes : ℕ} {m' d' : List ℕ}
    → ClaimWritten s budget m d (Written count verdict bytes) m' d' → WrittenClaim s count verdict bytes (take bytes d')
written_claim {d = d} (written {bytes} c of l) = rw (sets_first bytes d l, claim_bytes_lem (check_done c) of) (done_claim (check_done c))

pub written_within : {s : List ℕ} {budget : ℕ} {m d : List ℕ} {count : ℕ} {verdict : Verdict} {bytes : ℕ} {m' d' : List ℕ}
    → ClaimWritten s budget m d (Written count verdict bytes) m' d' → (bytes ≤ length d') × (bytes ≡ length (take bytes d'))
written_within {d = d} (written {bytes} c of l) =
    let within : length bytes ≤ length (sets d 0 bytes) = omega (arith, length-sets d 0 bytes) in
    (within, sym (length-take-le _ _ within))

-- ---- one to one

ascending_wider : {w w' : ℕ} (least : ℕ) (ps : List ℕ) → w ≤ w' → AscendingFrom w least ps → AscendingFrom w' least ps
ascending_wider least [] h a = tt
ascending_wider least (p ∷ ps) h a = (a.0, omega arith, ascending_wider (p + 1) ps h a.2)

-- every claim's positions are below the largest W
claim_most : {s bytes : List ℕ} {T : Table} (c : ClaimOf s T bytes) → AscendingBelow most_facts c.positions
claim_most {s} {T = T} c = ascending_wider 0 c.positions (W_max T (table_sound s T c.next c.is)) c.facts.ascending

pub claim_one_to_one : {s s' bytes : List ℕ} {T T' : Table} (c : ClaimOf s T bytes) (c' : ClaimOf s' T' bytes) → c.positions ≡ c'.positions
claim_one_to_one c c' =
    claim_bytes_inj most_facts c.positions c'.positions (omega arith) (claim_most c) (claim_most c') (sym c.written ∙ c'.written)

-- ---- what a claim check finds of it

module _ {s : List ℕ} {count bytes : ℕ} {file : List ℕ} where
  pub safe_claim_accepted : (w : WrittenClaim s count Safe bytes file) → Finds w.table (Claimed w.table w.claim.positions) accepted
  safe_claim_accepted w =
      let facts = w.claim.facts in
      finding_cast facts.claims facts.derives (whole (derives_closed_with_starts w.table) (safe_none w.judged))

  pub possible_claim_refused : {witness : Witness} (w : WrittenClaim s count (Possible witness) bytes file)
      → Finds w.table (Claimed w.table w.claim.positions) (allows_error witness.row)
  possible_claim_refused w =
      let facts = w.claim.facts in
      finding_cast facts.claims facts.derives (allowing (derives_closed_with_starts w.table) (possible_row w.judged))
