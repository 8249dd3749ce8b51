-- Rule 6: the uses at positions on a stretch of Q facts, those of t from pair a with frame f, are the uses of the rule. The Q fact to pair b and
-- the P fact from b to pair c give the Q fact to c.
use mathlib.Core.Path.{subst}
use mathlib.Core.List.{List}
use Prim.Native.Nat.{ℕ, ◌+◌, ◌*◌, ◌/◌, ◌%◌, ◌<◌}
use lib.Arith.{digits_lt}
use Rattle.files.specs.Table.{Table, Sound}
use Rattle.model.specs.Rules.{Fact, P, Q, call}
use Rattle.model.specs.Positions.{pos}
use Rattle.model.specs.Memory.{Marked}
use Rattle.model.proofs.Positions.{Stands}
use Rattle.store.specs.Marking.{Has}
use Rattle.positions.specs.Plans.{q_from, plan_of}
use Rattle.store.proofs.MarkLaws.{marked_has}
use Rattle.positions.proofs.PlanIsModel.{pos_p_stretch, pos_q_stretch, pair_digits, pair_fits}
use Rattle.uses.specs.Uses.{Uses, Upto}
use Rattle.uses.specs.RuleUses.{CallUse}
use Rattle.uses.proofs.Bridge.{Used, upto_at, Yielded, marked_at, one_yields, p_stands, q_stands}

-- the uses on that stretch
abbrev Calls : Table → ℕ → ℕ → ℕ → Uses
Calls T t a f = Upto (CallUse (plan_of T) t (q_from (plan_of T) t a + f * (T.G * T.L))) (T.G * T.L)

pub call_used : {T : Table} {m : List ℕ} {t a b f g l g' l' : ℕ} → Marked T m (Q t a b f g l) → Marked T m (P t g l g' l')
    → Used (Calls T t (a * T.L + b) f) m (pos T (Q t a b f g' l'))
call_used {T} {t = t} {a} {b} {f} {g} {l} {g'} {l'} hq hp =
    let e = pos_p_stretch T t g l g' l' in
    record {
      q = _;
      x = _;
      given = upto_at (g * T.L + l) (digits_lt hp.fits.1 hp.fits.2) (
        pos_q_stretch T t a b f g l,
        upto_at (g' * T.L + l') (digits_lt hp.fits.3 hp.fits.4) (e, e, pos_q_stretch T t a b f g' l'),
      );
      has_q = marked_has hq;
      has_x = marked_has hp;
    }

module _ {T : Table} (sound : Sound T) where
  -- a fact that ends at the digits of c stands at c in its stretch
  at_pair : {f : Fact} (x c : ℕ) → Stands T (x + (c / T.L * T.L + c % T.L)) f → Stands T (x + c) f
  at_pair {f} x c = subst (λ (z : ℕ). Stands T (x + z) f) (pair_digits T c)

  pub call_yields : {m : List ℕ} {t a f q x y : ℕ} → t < T.n → a < T.G * T.L → f < T.F → Calls T t a f q x y → Has m q → Has m x
      → Yielded T m y
  call_yields th ah fh u hq hx =
      let v = u.given.1 in
      let b = pair_fits T sound u.lt in
      let c = pair_fits T sound v.lt in
      let to-b = at_pair _ _ (q_stands sound th ah fh b.0 b.1) in
      one_yields (at_pair _ _ (p_stands sound th u.lt c.0 c.1)) (at_pair _ _ (q_stands sound th ah fh c.0 c.1))
      (call (marked_at to-b u.given.0 hq)) v.given hx
