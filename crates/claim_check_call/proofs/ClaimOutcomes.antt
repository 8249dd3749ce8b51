-- From the memory in which the claim is marked to the answer: what is found there is found of the claimed facts, and the first W bytes hold them
-- or are cleared.
--     answer_accepted, answer_fault                the answer, by what is found
--     answer_short, answer_refused, answer_read    by the length of the memory, and by what the claim's reader answers
use mathlib.Core.Path.{◌≡◌, sym, ap, subst, ◌∙◌}
use mathlib.Core.List.{List, Memᴰ}
use Prim.Native.Nat.{ℕ, ◌≤◌, ◌<◌}
use Rattle.std.specs.Prelude.{Ok, Err}
use native.Mathlib.Omega.{arith}
use lib.ListN.{length, take, drop}
use lib.Seq.{get_or-take}
use Rattle.numbers.specs.declared.refusals.Refusal.{Refusal}
use Rattle.files.specs.Table.{Table, W}
use Rattle.model.specs.Positions.{fact_at}
use Rattle.model.specs.Memory.{Says, Holds, Marked}
use Rattle.model.specs.Claims.{Claimed, Finds}
use Rattle.store.specs.Clearing.{Cleared}
use Rattle.check_call.specs.declared.stored.StoredTable.{StoredTable}
use Rattle.check_call.specs.Lent.{StoredAs}
use Rattle.claim_reader.specs.ClaimFile.{claim_at}
use Rattle.claim_reader.specs.ClaimAnswers.{IsClaim, claimed_of, positions_of}
use Rattle.claim_reader.proofs.ClaimLaws.{claimed_refused}
use Rattle.claim_reader.proofs.RoundTrip.{claim_ascending}
use Rattle.claim_reader.proofs.PositionsOfMarks.{ascending_below}
use Rattle.claim_reader.proofs.ClaimIsModel.{claim_held}
use Rattle.findings.specs.declared.find.Fault.{Fault}
use Rattle.findings.specs.declared.find.Fault.TheVariants as fault
use Rattle.findings.specs.Found.{Finding, finding_of}
use Rattle.findings.proofs.HeldFacts.{finds_of_claim}
use Rattle.claim_check_call.specs.declared.answer.ClaimRefusal.TheVariants as refusal
use Rattle.claim_check_call.specs.ClaimAnswer.{ClaimAnswer, Accepted, Short, ClaimRefused}
use Rattle.claim_check_call.specs.ClaimLent.{Lent, MarkedFirst}
use Rattle.claim_check_call.specs.ClaimChecking.{
  Refuses,
  OfPositions,
  done,
  lacking,
  missing,
  allowing,
  AgainstTable,
  short,
  claim_refused,
  claim_read,
}

-- ---- the claim is marked: `marked` has the marks in its first w bytes, and is m after them

module _ {T : Table} {ps : List ℕ} {table : StoredTable} {c : List ℕ} {count w : ℕ} (l : Lent T ps table c count w)
    {m marked : List ℕ} (room : w ≤ length marked) (by : MarkedFirst w (positions_of (claim_at w c)) m marked) where
  -- it holds the claimed facts
  facts : Holds T (Claimed T ps) marked
  facts =
      let part : Holds T (Claimed T ps) (take w marked) = claim_held l.stored.sound (sym l.wide) c l.reads by.marks in
      record {
        long = omega (arith, l.wide);
        says = λ p i. subst (Says (Claimed T ps (fact_at T p))) (get_or-take w marked p 0 (omega (arith, l.wide))) (part.says p i);
      }

  below : (p : ℕ) → Memᴰ p ps → p < W T
  below p i = omega (arith, l.wide, ascending_below (claim_ascending w c ps l.next l.reads) p i)

  -- what is found there, in the memory as it is afterwards
  module _ {r : Finding} (f : Finds T (Marked T marked) (finding_of r)) {after : List ℕ} (kept : after ≡ marked) where
    found : {x : Finding} → r ≡ x → Finds T (Claimed T ps) (finding_of x)
    found e = finds_of_claim l.stored.sound below facts (subst (λ x. Finds T (Marked T marked) (finding_of x)) e f)

    pub answer_accepted : r ≡ Ok tt → OfPositions T ps m (Accepted count) after
    answer_accepted e =
        rw (l.counted, kept) (done (record { found = found e; facts = facts; rest = rw (← l.wide) by.rest }))

    module _ {m' : List ℕ} (cleared : Cleared w after m') where
      refuses : {x : Finding} → r ≡ x → Refuses T ps m (finding_of x) m'
      refuses e =
          record {
            found = found e;
            cleared = rw (← l.wide) (record { zeros = cleared.zeros; rest = cleared.rest ∙ ap (drop w) kept ∙ by.rest });
          }

      pub answer_fault : (x : Fault) → r ≡ Err x → OfPositions T ps m (Err (refusal.Fault x)) m'
      answer_fault (fault.LacksStart t) e = lacking (refuses e)
      answer_fault (fault.NotClosed p) e = missing (refuses e)
      answer_fault (fault.AllowsError row) e = allowing (refuses e)

-- ---- by the length of the memory, and by what the claim's reader answers

module _ {T : Table} {w : ℕ} (wide : w ≡ W T) {c m : List ℕ} where
  pub answer_short : length m < w → AgainstTable T c m (Short w) m
  answer_short i = rw wide (short (omega arith))

  pub answer_refused : {x : Refusal} → w ≤ length m → Err x ≡ claimed_of (claim_at w c) → AgainstTable T c m (ClaimRefused x) m
  answer_refused {x} room e = claim_refused (omega arith) (rw wide at (claimed_refused w c x e))

module _ {T : Table} {w : ℕ} (wide : w ≡ W T) {c : List ℕ} (i : IsClaim w c) where
  -- what is lent from then on
  pub read_lent : {table : StoredTable} {count : ℕ} → StoredAs T table → count ≡ length i.positions → Lent T i.positions table c count w
  read_lent s e = record { stored = s; wide = wide; next = i.next; reads = i.reads; counted = e }

  pub answer_read : {m : List ℕ} {a : ClaimAnswer} {m' : List ℕ} → w ≤ length m → OfPositions T i.positions m a m' → AgainstTable T c m a m'
  answer_read room o = claim_read (omega arith) (rw wide at i.reads) o
