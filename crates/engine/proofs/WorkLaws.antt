-- A turn of the work: what the walker of rule 4 does on the first n of a list of rows is rule 4 on the turn's stretch, so the turn that `next_turn`
-- gives follows on it.
use mathlib.Core.Path.{◌≡◌, refl, subst}
use mathlib.Core.Bool.{Bool}
use mathlib.Core.List.{List}
use Prim.Native.Nat.{ℕ, ◌/◌, ◌%◌, ◌≤◌}
use lib.ListN.{length, take}
use Rattle.std.specs.Prelude.{Option}
use Rattle.store.specs.declared.rows.RowCounts.{RowCounts}
use Rattle.store.specs.declared.rows.Row.{Row}
use Rattle.positions.specs.Plans.{Plan}
use Rattle.store.specs.Reading.{nth, Unpacked}
use Rattle.uses.specs.declared.sweep.Sweep.{Sweep}
use Rattle.uses.specs.Sweeping.{Kept, Did}
use Rattle.uses.specs.RuleUses.{StepUses}
use Rattle.uses.proofs.SweepLaws.{kept_then, told, same_way}
use Rattle.steps.proofs.ListLaws.{taken_swept}
use Rattle.engine.specs.declared.turns.Turn.{Turn}
use Rattle.engine.specs.InRange.{Given}
use Rattle.engine.specs.Turns.{Turning, Follows, Stepped, Goes}

module _ (n : RowCounts) {st : List ℕ} {rows : List Row} (listed : Unpacked st n.steps rows) (long : n.steps ≤ length rows)
    {old mid : Sweep} (kept : Kept old mid) {t a : ℕ} (turn : Turn) (thread : t ≡ turn.stretch / old.plan.k)
    (pair : a ≡ turn.stretch % old.plan.k) {stepped : Sweep}
    (did : Did (StepUses mid.plan t a (nth (take n.steps rows)) (length (take n.steps rows))) mid stepped) where
  rule_4 : Stepped old.plan n st old.put turn mid.pass stepped.pass mid.mem.now stepped.mem.now
  rule_4 =
      rw (← thread, ← pair)
      (taken_swept rows listed long old.plan t a
      (same_way kept (told kept (λ (p : Plan). StepUses p t a (nth (take n.steps rows)) (length (take n.steps rows))) did)))

  pub goes_on : {pu po : List ℕ} {r : Option Turn} (new : Sweep) → Given old.plan n st pu po
      → Turning old.plan n st pu po old.put old.pass turn mid.pass old.mem.now mid.mem.now
      → Follows stepped.plan n pu po stepped.put turn mid.pass.left stepped.pass stepped.mem.now r new.pass new.mem.now
      → Goes old.plan n st pu po old.put old.pass turn mid.pass r new.pass old.mem.now new.mem.now
  goes_on {pu} {po} {r} new given turning follows =
      let k = kept_then kept did.kept in
      let f = subst (λ (p : Plan). Follows p n pu po stepped.put turn mid.pass.left stepped.pass stepped.mem.now r new.pass new.mem.now) k.plan follows in
      let g = subst (λ (p : Bool). Follows old.plan n pu po p turn mid.pass.left stepped.pass stepped.mem.now r new.pass new.mem.now) k.put f in
      g st old.pass mid.pass old.mem.now mid.mem.now refl given turning rule_4
