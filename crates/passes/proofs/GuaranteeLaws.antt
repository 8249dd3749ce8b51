-- Rules 2 and 3. Their test whether facts of a stretch end at a shared store. And
-- their uses: of the guarantees from one shared store to another, one that acts stands for all.
use mathlib.Core.Path.{◌≡◌, refl, subst}
use mathlib.Core.Bool.{Bool, true, false}
use mathlib.Core.List.{List}
use Prim.Native.Nat.{ℕ, ◌+◌, ◌*◌, ◌-◌}
use native.Mathlib.Omega.{arith}
use Rattle.store.specs.Marking.{Has, Among, SomeIn, NextMark, Is}
use Rattle.positions.specs.Plans.{Plan, g_at}
use Rattle.std.specs.Prelude.{Option, Some, None, is_some}
use Rattle.uses.specs.declared.lines.Pass.{Pass}
use Rattle.uses.specs.Uses.{Upto, Line}
use Rattle.uses.specs.Passing.{Swept}
use Rattle.uses.specs.RuleUses.{MovedTo}
use Rattle.passes.specs.Acting.{Acts}
use Rattle.uses.proofs.PassLaws.{swept_more, swept_idle, swept_with, swept_under, flat_line, flat_under}

-- a test, where something else holds
pub is_and : {A : Type 0} (B : Type 0) (r : Bool) → A → Is B r → Is (A × B) r
is_and B true a b = (a, b)
is_and B false a n = λ p. n p.1

-- there is a next mark if there is one among the places before the end
pub next_some : (m : List ℕ) (x n : ℕ) (o : Option ℕ) → NextMark m x (x + n) o → Is (SomeIn m x n) (is_some o)
next_some m x n None none = λ s. none (x + s.j) (record { past = omega arith; below = omega (arith, s.lt); has = s.here })
next_some m x n (Some p) f =
    let at : p ≡ x + (p - x) = omega (arith, f.here.past) in
    record { j = p - x; lt = omega (arith, f.here.past, f.here.below); here = subst (Has m) at f.here.has }

-- the guarantees from g to g', on the stretch of facts of t from x on
module _ (s : Plan) (t x g g' : ℕ) where
  -- what one of them moves is what all of them move
  pub moved_any : {put : Bool} {b r : Pass} {m m' : List ℕ} → Among (Acts s t m g g') s.n
      → Swept (Upto (Line (x + g * s.l) (x + g' * s.l)) s.l) put b r m m' → Swept (MovedTo s t x g g') put b r m m'
  moved_any a w =
      swept_more (λ q z y u. record { k = a.j; lt = a.lt; given = u })
      (λ y l. record {
        q = g_at s a.j g g';
        x = l.x;
        given = (refl, (a.here.0, l.given.given.1.1));
        has_q = a.here.1;
        has_x = l.has_x;
        not = l.not;
      })
      (swept_with (flat_under (flat_line _ _ _)) (g_at s a.j g g') a.here.1 (swept_under a.here.0 w))

  -- none of them acts
  pub moved_nobody : {b : Pass} {m : List ℕ} (put : Bool) → ¬ Among (Acts s t m g g') s.n → Swept (MovedTo s t x g g') put b b m m
  moved_nobody put nobody =
      swept_idle put λ y l.
      let u = l.given in
      nobody (record { j = u.k; lt = u.lt; here = (u.given.1.0, subst (Has _) u.given.0 l.has_q) })
