-- How work under way goes on: with a pass over more uses, with other names for the same uses, and to a round that begins anew. Each law has two
-- sides, as those of passes have.
use mathlib.Core.Path.{◌≡◌, refl, subst, ◌∙◌}
use mathlib.Core.Bool.{Bool, true, false}
use mathlib.Core.Logic.{◌⊎◌, inl, inr}
use mathlib.Core.List.{List}
use Prim.Native.Nat.{ℕ, ◌<◌, ◌≤◌}
use native.Mathlib.Omega.{arith}
use Rattle.uses.specs.declared.lines.Pass.{Pass}
use Rattle.uses.specs.Uses.{Uses, Either, Lacks}
use Rattle.uses.specs.Passing.{Swept, looks, puts}
use Rattle.engine.specs.Turns.{Covered, looking, putting}
use Rattle.engine.specs.Working.{Worked, looked, settled}
use Rattle.uses.proofs.PassLaws.{puts_idle, puts_then, puts_to, puts_le, puts_none, looked_idle, looked_then, either, lacks_to, first_to}

-- a pass leaves no more than there were
pub swept_fewer : {A : Uses} {put : Bool} {b r : Pass} {m m' : List ℕ} → Swept A put b r m m' → r.left ≤ b.left
swept_fewer (looks k) = omega (arith, k.left)
swept_fewer (puts p done) = puts_le p

module _ {All D : Uses} where
  pub covered_fewer : {put : Bool} {b p : Pass} {before : ℕ} {m₀ m : List ℕ} → Covered All D put b before p m₀ m → p.left ≤ before
  covered_fewer (looking k e) = omega (arith, e)
  covered_fewer (putting q le c) = le

  -- nothing was gone over
  pub covered_none : {b : Pass} {m : List ℕ} (put : Bool) → ((q x y : ℕ) → ¬ D q x y) → Covered All D put b b.left b m m
  covered_none {b} true none = putting {b = b} {p = b} {before = b.left} puts_idle (omega arith) (λ h e y l. none _ _ _ l.given)
  covered_none false none = looking (looked_idle (λ h y l. none _ _ _ l.given)) refl

  -- a pass over more
  pub covered_then : {A : Uses} → ((q x y : ℕ) → A q x y → All q x y) → {put : Bool} {b p r : Pass} {before : ℕ} {m₀ m m' : List ℕ}
      → Covered All D put b before p m₀ m → Swept A put p r m m' → Covered All (Either D A) put b before r m₀ m'
  covered_then part (looking k e) (looks l) = looking (looked_then k l) (l.left ∙ e)
  covered_then {A} part {p = p} {r = r} {before = before} {m = m} {m' = m'} (putting q le c) (puts s done) =
      putting {before = before} (puts_then q (puts_to part s)) (omega (arith, puts_le s)) closed
    where
      closed : 0 < r.left → r.left ≡ before → (y : ℕ) → ¬ Lacks (Either D A) m' y
      closed h e y l =
          let same : r.left ≡ p.left = omega (arith, puts_le s) in
          pick (either (subst (λ (z : List ℕ). Lacks (Either D A) z y) (puts_none s same) l))
        where
          pick : Lacks D m y ⊎ Lacks A m y → ⊥
          pick (inl u) = c (omega (arith, puts_le s)) (omega (arith, puts_le s)) y u
          pick (inr u) = done h (omega (arith, puts_le s)) y u

module _ {All D E : Uses} where
  -- the same uses
  pub covered_same : ((q x y : ℕ) → D q x y → E q x y) → ((q x y : ℕ) → E q x y → D q x y)
      → {put : Bool} {b p : Pass} {before : ℕ} {m₀ m : List ℕ} → Covered All D put b before p m₀ m → Covered All E put b before p m₀ m
  covered_same to fro (looking k e) =
      looking (record { left = k.left; least = λ h y l. k.least h y (lacks_to fro l); first = first_to to k.first; le = k.le }) e
  covered_same to fro (putting q le c) = putting q le (λ h e y l. c h e y (lacks_to fro l))

  -- none is left: nothing is claimed of the uses that were not gone over
  pub covered_spent : ((q x y : ℕ) → D q x y → E q x y) → {put : Bool} {b p : Pass} {before : ℕ} {m₀ m : List ℕ} → p.left ≡ 0
      → Covered All D put b before p m₀ m → Covered All E put b p.left p m₀ m
  covered_spent to z (looking k e) =
      looking (record { left = k.left; least = λ h. absurd (omega (arith, k.left)); first = first_to to k.first; le = k.le }) refl
  covered_spent to {p = p} z (putting q le c) = putting {before = p.left} q (omega arith) (λ h. absurd (omega arith))

  -- some were put since the round began, so nothing is claimed
  pub covered_put : {put : Bool} {b p : Pass} {before : ℕ} {m₀ m : List ℕ} → ¬ (p.left ≡ before) → Covered All D put b before p m₀ m
      → Covered All E put b before p m₀ m
  covered_put n (looking k e) = absurd (n e)
  covered_put n (putting q le c) = putting q le (λ h e. absurd (n e))

  -- and the next round begins
  pub covered_new : {put : Bool} {b p : Pass} {before : ℕ} {m₀ m : List ℕ} → ¬ (p.left ≡ before) → ((q x y : ℕ) → ¬ E q x y)
      → Covered All D put b before p m₀ m → Covered All E put b p.left p m₀ m
  covered_new n none (looking k e) = absurd (n e)
  covered_new {p = p} n none (putting q le c) = putting {before = p.left} q (omega arith) (λ h e y l. none _ _ _ l.given)

-- the round that put nothing went over every use
pub covered_all : {All : Uses} {put : Bool} {b p : Pass} {before : ℕ} {m₀ m : List ℕ} → p.left ≡ before
    → Covered All All put b before p m₀ m → Worked All put b p m₀ m
covered_all e (looking k f) = looked k
covered_all e (putting q le c) = settled (record { puts = q; closed = λ h. c h e })
