-- A memory that holds the least relations marks the positions of the facts, ascending; and there is one such list. So what the contract says by
-- the rules alone can be read off the memory that a finished check leaves.
--     marks_are_positions    the marked positions are those of the facts
--     positions_are_marks    the positions of the facts are the marked ones
--     claim_of_marks         the claim of the marks that it leaves is the claim of the facts
--     claim_table, claim_bytes_lem    and there is no other
use mathlib.Core.Path.{◌≡◌, refl, sym, ap, ◌∙◌}
use mathlib.Core.List.Memᴰ
use mathlib.Core.List.{List, Memᴰ}
use Prim.Native.Nat.{ℕ, ◌<◌}
use lib.Seq.{length-take-le, get_or-take}
use Rattle.files.specs.Table.{Table, Sound, W}
use Rattle.model.specs.Rules.{Derives}
use Rattle.model.specs.Positions.{fact_at}
use Rattle.model.specs.Memory.{Relations}
use Rattle.model.proofs.Positions.{fact_at_inj}
use Rattle.model.proofs.InRange.{derives_fits}
use Rattle.model.proofs.Memory.{says_cast, marked_in, in_marked}
use Rattle.model.proofs.Claims.{claimed_fits}
use Rattle.verdict.specs.declared.search.Verdict.{Verdict}
use Rattle.check_call.specs.Checking.{CheckDone}
use Rattle.check_call.proofs.Unique.{got_table}
use Rattle.claim_reader.specs.ClaimFile.{claim_bytes}
use Rattle.claim_reader.specs.Marks.{positions_in}
use Rattle.claim_reader.proofs.PositionsOfMarks.{ascending_below, positions_of_marks, positions_back, positions_take}
use Rattle.claim_reader.proofs.ClaimIsModel.{written_held}
use Rattle.claim_write_call.specs.ClaimWriting.{FactPositions, ClaimOf}

-- ---- the marks and the positions

module _ {T : Table} (sound : Sound T) where
  pub marks_are_positions : {m : List ℕ} → Relations T m → FactPositions T (positions_in (W T) m)
  marks_are_positions {m} r =
      let held = written_held sound refl r in
      let marks = positions_of_marks (W T) m in
      let fits = claimed_fits sound (positions_in (W T) m) (ascending_below marks.ascending) in
      record {
        ascending = marks.ascending;
        derives = λ f c. marked_in r f (in_marked held f (fits f c) c);
        claims = λ f d. marked_in held f (in_marked r f (derives_fits sound f d) d);
      }

  module _ {ps : List ℕ} (facts : FactPositions T ps) where
    listed_derives : (p : ℕ) → Memᴰ p ps → Derives T (fact_at T p)
    listed_derives p i = facts.derives _ (Memᴰ.map (fact_at T) i)

    derives_listed : (p : ℕ) → p < W T → Derives T (fact_at T p) → Memᴰ p ps
    derives_listed p l d =
        let (q, i, e) = Memᴰ.of_map (fact_at T) ps (facts.claims _ d) in
        Memᴰ.cast (fact_at_inj sound l (ascending_below facts.ascending q i) (sym e)) i

    pub positions_are_marks : {m : List ℕ} → Relations T m → positions_in (W T) m ≡ ps
    positions_are_marks {m} r =
        sym (positions_take (W T) m)
        ∙ positions_back facts.ascending
        (record {
          long = length-take-le (W T) m r.long;
          says = λ p l. rw (get_or-take (W T) m p 0 l) (says_cast (derives_listed p l) (listed_derives p) (r.says p l));
        })

-- ---- a finished check

module _ {s : List ℕ} {budget : ℕ} {m : List ℕ} {count : ℕ} {verdict : Verdict} {m' : List ℕ}
    (k : CheckDone s budget m count verdict m') where
  -- the claim of the marks that it leaves
  unfoldable pub claim_of_marks : ClaimOf s k.table (claim_bytes (positions_in (W k.table) m'))
  claim_of_marks =
      record {
        next = k.next;
        is = k.is;
        positions = positions_in (W k.table) m';
        facts = marks_are_positions k.sound k.finished.relations;
        written = refl;
      }

  module _ {T : Table} {bytes : List ℕ} (c : ClaimOf s T bytes) where
    pub claim_table : T ≡ k.table
    claim_table = got_table (sym c.is ∙ k.is)

    pub claim_bytes_lem : bytes ≡ claim_bytes (positions_in (W k.table) m')
    claim_bytes_lem =
        let facts = rw claim_table at c.facts in
        c.written ∙ ap claim_bytes (sym (positions_are_marks k.sound facts k.finished.relations))
