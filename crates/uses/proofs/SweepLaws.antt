-- How passes at the positions of a plan are put together. Each law is one of PassLaws; besides, plan and memory are the same throughout.
--     kept_then            what is kept, kept on
--     did_by               a pass over one set of uses is one over another
--     told                 what is told by the plan of a later pass is told by that of the first
--     did_then             one pass, then another
--     did_none, did_next   a loop of passes
--     did_spent            a loop that is left early, with none left
use mathlib.Core.Path.{◌≡◌, refl, subst, ◌∙◌}
use mathlib.Core.Bool.{Bool}
use Prim.Native.Nat.{ℕ, ◌+◌, ◌≤◌}
use Rattle.positions.specs.Plans.{Plan}
use Rattle.uses.specs.declared.sweep.Sweep.{Sweep}
use Rattle.uses.specs.Uses.{Uses, Either, Upto}
use Rattle.uses.specs.Passing.{Swept}
use Rattle.uses.specs.Sweeping.{Kept, Did}
use Rattle.uses.proofs.PassLaws.{and_then, upto_none, upto_next, upto_spent}

pub kept_then : {old mid new : Sweep} → Kept old mid → Kept mid new → Kept old new
kept_then k l = record { name = l.name ∙ k.name; plan = l.plan ∙ k.plan; put = l.put ∙ k.put }

pub kept_none : {s : Sweep} → Kept s s
kept_none = record { name = refl; plan = refl; put = refl }

pub did_by : {A B : Uses} {old new : Sweep} → Did A old new → Swept B old.put old.pass new.pass old.mem.now new.mem.now → Did B old new
did_by d w = record { kept = d.kept; swept = w }

module _ {old mid new : Sweep} (kept : Kept old mid) where
  pub told : (B : Plan → Uses) → Did (B mid.plan) mid new → Did (B old.plan) mid new
  told B e = subst (λ (p : Plan). Did (B p) mid new) kept.plan e

  pub same_way : {B : Uses} → Did B mid new → Swept B old.put mid.pass new.pass mid.mem.now new.mem.now
  same_way {B} e = subst (λ (p : Bool). Swept B p mid.pass new.pass mid.mem.now new.mem.now) kept.put e.swept

pub did_then : {A B : Uses} {old mid new : Sweep} → Did A old mid → Did B mid new → Did (Either A B) old new
did_then d e = record { kept = kept_then d.kept e.kept; swept = and_then d.swept (same_way d.kept e) }

pub did_none : (A : ℕ → Uses) {s : Sweep} → Did (Upto A 0) s s
did_none A = record { kept = kept_none; swept = upto_none A }

pub did_next : (A : Plan → ℕ → Uses) {i : ℕ} {old mid new : Sweep} → Did (Upto (A old.plan) i) old mid → Did (A mid.plan i) mid new
    → Did (Upto (A old.plan) (i + 1)) old new
did_next A {i} {old} d e =
    record { kept = kept_then d.kept e.kept; swept = upto_next (A old.plan) d.swept (same_way d.kept (told d.kept (λ p. A p i) e)) }

pub did_spent : (A : ℕ → Uses) {i n : ℕ} {old new : Sweep} → i ≤ n → new.pass.left ≡ 0 → Did (Upto A i) old new → Did (Upto A n) old new
did_spent A l z d = did_by d (upto_spent A l z d.swept)
