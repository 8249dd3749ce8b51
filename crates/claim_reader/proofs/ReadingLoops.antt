-- The invariants of the two loops over the positions of a claim.
--     Reading, read-…    i positions are read, and the others end where all do
--     Marking, mark-…    i positions are marked, and marking the others marks all
use mathlib.Core.Path.{◌≡◌, refl, sym, ◌∙◌}
use mathlib.Core.List.{List, [], ◌∷◌}
use Prim.Native.Nat.{ℕ, suc, ◌+◌, ◌-◌, ◌≤◌, ◌<◌}
use native.Mathlib.Omega.{arith}
use native.Mathlib.Nat.{sub-zero}
use Rattle.numbers.specs.declared.refusals.Refusal.{Refusal}
use Rattle.numbers.specs.Reading.{Out, got, bad}
use Rattle.std.specs.Prelude.{Ok, Err}
use Rattle.cells.specs.Rows.{push}
use Rattle.reader.specs.Ends.{end_of}
use Rattle.store.specs.Marking.{room, marked}
use Rattle.store.proofs.MarkLaws.{put_room}
use Rattle.claim_reader.specs.ClaimFile.{position_at, positions_at}
use Rattle.claim_reader.specs.ClaimAnswers.{positions_of}
use Rattle.claim_reader.specs.Stages.{marked_all}
use Rattle.claim_reader.proofs.PositionLaws.{position_got, positions_none, positions_more, positions_stop, positions_first}

-- ---- the loop that reads

end_push : (p : ℕ) (o : Out (List ℕ)) → end_of (push p o) ≡ end_of o
end_push p (got ps n) = refl
end_push p (bad r) = refl

pub record Reading (w count : ℕ) (s : List ℕ) (at p i least last : ℕ) : Type 0 where
  pub up : i ≤ count
  pub within : last ≤ w
  pub same : end_of (positions_at w count 0 0 s at) ≡ end_of (positions_at w (count - i) least last s p)

module _ {w count : ℕ} {s : List ℕ} {at : ℕ} where
  pub read_start : Reading w count s at at 0 0 0
  read_start = record { up = omega arith; within = omega arith; same = rw (sub-zero count) }

  module _ {p i least last : ℕ} (f : Reading w count s at p i least last) where
    pub read_more : {q n : ℕ} → i < count → position_at w least last s p ≡ got q n → Reading w count s at n (i + 1) 1 q
    read_more {q} {n} h e =
        let left : count - i ≡ suc (count - (i + 1)) = omega arith in
        record {
          up = omega arith;
          within = omega (arith, (position_got w least last s p q n e).below);
          same = f.same ∙ rw (left, positions_more w _ least last s p e) (end_push q (positions_at w (count - (i + 1)) 1 q s n));
        }

    pub read_refused : {r : Refusal} → i < count → position_at w least last s p ≡ bad r → Err r ≡ end_of (positions_at w count 0 0 s at)
    read_refused h e =
        let left : count - i ≡ suc (count - (i + 1)) = omega arith in
        sym (f.same ∙ rw (left, positions_stop w _ least last s p e))

    pub read_end : count ≤ i → Ok p ≡ end_of (positions_at w count 0 0 s at)
    read_end h =
        let none : count - i ≡ 0 = omega arith in
        sym (f.same ∙ rw (none, positions_none))

-- ---- the loop that marks

pub record Marking (w count : ℕ) (s : List ℕ) (at : ℕ) (mem₀ mem : List ℕ) (p i least last : ℕ) : Type 0 where
  pub up : i ≤ count
  pub within : last ≤ w
  pub long : room mem ≡ room mem₀
  pub rest : List ℕ
  pub end : ℕ
  pub reads : positions_at w (count - i) least last s p ≡ got rest end
  pub same : marked_all mem₀ (positions_of (positions_at w count 0 0 s at)) ≡ marked_all mem rest

mark_step : (mem : List ℕ) {mem' ps rest : List ℕ} {p q : ℕ} → ps ≡ p ∷ rest → p ≡ q → mem' ≡ marked mem q
    → marked_all mem ps ≡ marked_all mem' rest
unfolding marked_all
mark_step mem e i put = rw (e, i, put)

module _ {w count : ℕ} {s : List ℕ} {at : ℕ} {mem₀ : List ℕ} where
  pub mark_start : {ps : List ℕ} {n : ℕ} → positions_at w count 0 0 s at ≡ got ps n → Marking w count s at mem₀ mem₀ at 0 0 0
  mark_start {ps} {n} e =
      record {
        up = omega arith;
        within = omega arith;
        long = refl;
        rest = ps;
        end = n;
        reads = rw (sub-zero count) e;
        same = rw e;
      }

  module _ {mem : List ℕ} {p i least last : ℕ} (f : Marking w count s at mem₀ mem p i least last) where
    module _ (h : i < count) where
      left : count - i ≡ suc (count - (i + 1))
      left = omega arith

      pub mark_more : {q n : ℕ} {mem' : List ℕ} → position_at w least last s p ≡ got q n → mem' ≡ marked mem q
          → Marking w count s at mem₀ mem' n (i + 1) 1 q
      mark_more {q} {n} {mem'} e put =
          let t = positions_first w (count - (i + 1)) least last s p f.rest f.end (rw left at f.reads) in
          let eq : t.p ≡ q = cc (t.was, e) in
          let en : t.next ≡ n = cc (t.was, e) in
          record {
            up = omega arith;
            within = omega (arith, (position_got w least last s p q n e).below);
            long = rw put (put_room mem q ∙ f.long);
            rest = t.others.rest;
            end = f.end;
            reads = rw (eq, en) at t.others.was;
            same = f.same ∙ mark_step mem t.others.whole eq put;
          }

      -- what reads well is not refused
      pub mark_next : (q : ℕ) × (n : ℕ) × (position_at w least last s p ≡ got q n)
      mark_next =
          let t = positions_first w (count - (i + 1)) least last s p f.rest f.end (rw left at f.reads) in
          (t.p, t.next, t.was)

    pub mark_end : count ≤ i → mem ≡ marked_all mem₀ (positions_of (positions_at w count 0 0 s at))
    unfolding marked_all
    mark_end h =
        let none : count - i ≡ 0 = omega arith in
        let r = rw (none, positions_none) at f.reads in
        let z : f.rest ≡ [] = cc in
        sym (f.same ∙ rw z)
