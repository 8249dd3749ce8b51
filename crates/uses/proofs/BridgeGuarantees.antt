-- Rules 2 and 3: the uses of the G facts at positions, on a stretch of facts of t, are the uses of the rules. Both rules are one law, for any
-- stretch that begins at x: the fact of it that ends at g, l stands at the pair of g and l, and a guarantee of another thread moves it.
use mathlib.Core.Path.{◌≡◌, ◌∙◌}
use mathlib.Core.Logic.{◌≢◌}
use mathlib.Core.List.{List}
use Prim.Native.Nat.{ℕ, ◌+◌, ◌*◌, ◌<◌}
use native.Mathlib.Omega.{arith}
use Rattle.files.specs.Table.{Table}
use Rattle.model.specs.Rules.{Fact, G, Yields}
use Rattle.model.specs.Positions.{pos}
use Rattle.model.specs.Memory.{Marked}
use Rattle.model.proofs.Positions.{Stands}
use Rattle.store.specs.Marking.{Has}
use Rattle.positions.specs.Plans.{plan_of}
use Rattle.store.proofs.MarkLaws.{marked_has}
use Rattle.positions.proofs.PlanIsModel.{pos_g}
use Rattle.uses.specs.Uses.{Uses, Upto}
use Rattle.uses.specs.RuleUses.{MovedFrom}
use Rattle.uses.proofs.Bridge.{Used, upto_at, Yielded, marked_at, one_yields, g_stands}

-- the uses on the stretch from x on
abbrev Moved : Table → ℕ → ℕ → Uses
Moved T t x = Upto (MovedFrom (plan_of T) t x) T.G

-- ---- from uses of the rules

pub moved_used : {T : Table} {m : List ℕ} {t e g g' l : ℕ} (x : ℕ) (fact : ℕ → ℕ → Fact)
    → ((g l : ℕ) → pos T (fact g l) ≡ x + (g * T.L + l)) → l < T.L → Marked T m (fact g l) → Marked T m (G e g g') → e ≢ t
    → Used (Moved T t x) m (pos T (fact g' l))
moved_used {T} {e = e} {g} {g'} {l} x fact place lh h guarantee other =
    let (eh, gh, gh') = guarantee.fits in
    let from : pos T (fact g l) ≡ x + g * T.L + l = place g l ∙ omega arith in
    let to : pos T (fact g' l) ≡ x + g' * T.L + l = place g' l ∙ omega arith in
    record {
      q = _;
      x = _;
      given = upto_at g gh (upto_at g' gh' (upto_at e eh (pos_g T e g g', (other, upto_at l lh (from, from, to)))));
      has_q = marked_has guarantee;
      has_x = marked_has h;
    }

-- ---- to uses of the rules

pub moved_yields : {T : Table} {m : List ℕ} {t q x' y : ℕ} (x : ℕ) (fact : ℕ → ℕ → Fact)
    → ((g l : ℕ) → g < T.G → l < T.L → Stands T (x + (g * T.L + l)) (fact g l))
    → ((e g g' l : ℕ) → Marked T m (fact g l) → Marked T m (G e g g') → e ≢ t → Yields T (Marked T m) (fact g' l))
    → Moved T t x q x' y → Has m q → Has m x' → Yielded T m y
moved_yields {T} x fact stands rule u hq hx =
    let to = u.given in
    let by = to.given in
    let (e, (other, v)) = by.given in
    one_yields (ends u.lt v.lt) (ends to.lt v.lt)
    (λ h. rule _ _ _ _ h (marked_at (g_stands by.lt u.lt to.lt) e hq) other) v.given hx
  where
    ends : {g l : ℕ} → g < T.G → l < T.L → Stands T (x + g * T.L + l) (fact g l)
    ends gh lh = let w = stands _ _ gh lh in record { fits = w.fits; here = w.here ∙ omega arith }
