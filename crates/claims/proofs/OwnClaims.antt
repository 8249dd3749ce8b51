-- What the check calls safe, claim writing writes, and the claim check accepts (document 00, demand 3: "When our check, with budget, memory and room
-- for the claim enough, says safe, the claim that it writes is accepted"). A finished check is finished with every memory that is long enough, and
-- tells the same; so claim writing comes to the claim of the facts, which has room. The claim check reads it as exactly these facts.
--     done_is_written    where the check is done and there is room, the claim is written, with the check's count and verdict
--     safe_accepted      a claim that was written with the verdict "safe" is accepted
--     safe_written       both
use mathlib.Core.Path.{◌≡◌, sym, ap, subst, subst⁻¹, ◌∙◌}
use mathlib.Core.List.{List}
use Prim.Native.Nat.{ℕ, ◌≤◌}
use native.Mathlib.Omega.{arith}
use lib.ListN.{length, take}
use Rattle.numbers.specs.Reading.{got}
use Rattle.numbers.proofs.ReadingLaws.{never}
use Rattle.files.specs.Table.{Table, W}
use Rattle.files.specs.File.{table_at}
use Rattle.verdict.specs.declared.search.Verdict.{Verdict}
use Rattle.verdict.specs.declared.search.Verdict.TheVariants.{Safe}
use Rattle.check_call.specs.declared.answer.Done.{Done as Finished}
use Rattle.check_call.specs.Answer.{Done}
use Rattle.check_call.specs.Checking.{Checked}
use Rattle.check_call.proofs.Unique.{got_table}
use Rattle.check_call.proofs.Exactly.{done_again}
use Rattle.claim_check_call.specs.ClaimAnswer.{Accepted}
use Rattle.claim_check_call.proofs.ClaimCases.{table_was_read, claim_was_read, answer_by_finding}
use Rattle.claim_write_call.specs.WriteAnswer.{WriteAnswer, Written}
use Rattle.claim_write_call.specs.ClaimWriting.{ClaimOf, ClaimWritten, refused, short, over, no_space, written}
use Rattle.claim_write_call.proofs.WrittenLaws.{written_claim, safe_claim_accepted}
use Rattle.claims.specs.Owed.{IsAccepted, RoomForClaim}

done_parts : {count count' : ℕ} {verdict verdict' : Verdict} → Done count verdict ≡ Done count' verdict' → (count ≡ count') × (verdict ≡ verdict')
done_parts {count} {count'} {verdict} {verdict'} e =
    let same : ◌≡◌ {A = Finished} (record { count = count; verdict = verdict }) (record { count = count'; verdict = verdict' }) = cc in
    (ap (λ (d : Finished). d.count) same, ap (λ (d : Finished). d.verdict) same)

module _ {s : List ℕ} {T : Table} {n : ℕ} (e : table_at s ≡ got T n) where
  pub done_is_written : {budget : ℕ} {m m' k d k' d' : List ℕ} {count : ℕ} {verdict : Verdict} {a : WriteAnswer}
      → Checked s budget m (Done count verdict) m' → W T ≤ length k → RoomForClaim s T d → ClaimWritten s budget k d a k' d'
      → (bytes : ℕ) × (a ≡ Written count verdict bytes)
  done_is_written c room fits (refused c') = let q = done_again e room c c' in never (cc)
  done_is_written c room fits (short c') = let q = done_again e room c c' in never (cc)
  done_is_written c room fits (over c') = let q = done_again e room c c' in never (cc)
  done_is_written c room fits (no_space {bytes = bytes} c' of l z) =
      let mine = subst⁻¹ (λ T. ClaimOf s T bytes) (got_table (sym e ∙ of.is)) of in
      absurd (omega (arith, fits bytes mine))
  done_is_written c room fits (written {bytes = bytes} c' of l) =
      let (p, q) = done_parts (done_again e room c c') in
      (length bytes, λ i. Written (p i) (q i) (length bytes))

  pub safe_accepted : {budget : ℕ} {m d m' d' : List ℕ} {count bytes : ℕ} → ClaimWritten s budget m d (Written count Safe bytes) m' d'
      → IsAccepted s T (take bytes d') count
  safe_accepted w m m' a room h =
      let k = written_claim w in
      let long = subst (λ T. W T ≤ length m) (got_table (sym e ∙ k.claim.is)) room in
      answer_by_finding (safe_claim_accepted k) (claim_was_read long k.reads (table_was_read k.claim.is h)) ∙ ap Accepted (sym k.counts)

  pub safe_written : {budget : ℕ} {m m' k d k' d' : List ℕ} {count : ℕ} {a : WriteAnswer}
      → Checked s budget m (Done count Safe) m' → W T ≤ length k → RoomForClaim s T d → ClaimWritten s budget k d a k' d'
      → (bytes : ℕ) × (a ≡ Written count Safe bytes) × IsAccepted s T (take bytes d') count
  safe_written {budget} {k = k} {d} {k'} {d'} c room fits w =
      let (bytes, is) = done_is_written c room fits w in
      (bytes, is, safe_accepted (subst (λ a. ClaimWritten s budget k d a k' d') is w))
