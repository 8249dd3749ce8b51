-- Each use on a stretch of facts has a premise in it. So a stretch with no mark gives nothing.
use mathlib.Core.Path.{◌≡◌, refl, subst}
use mathlib.Core.Logic.{inl, inr}
use mathlib.Core.List.{List}
use Prim.Native.Nat.{ℕ, ◌+◌, ◌*◌, ◌<◌, ◌≤◌}
use native.Mathlib.Omega.{arith}
use Rattle.store.specs.declared.rows.Row.{Row}
use Rattle.store.specs.Marking.{Has, SomeIn}
use Rattle.positions.specs.Plans.{Plan, Planned, p_from, q_from}
use Rattle.store.specs.Reading.{row_of}
use Rattle.positions.proofs.Places.{pair_lt, q_stretch, cut}
use Rattle.uses.specs.Ranges.{EachIn}
use Rattle.uses.specs.Uses.{Single, Either, Upto}
use Rattle.uses.specs.RuleUses.{StepUses, PushUses, PopUses, CallUse, MovedFrom}

-- two uses of one mark
from_one : {x y y' q z w : ℕ} → Either (Single x y) (Single x y') q z w → z ≡ x
from_one (inl u) = u.1
from_one (inr u) = u.1

module _ (m : List ℕ) where
  -- a mark j places after x is one among n
  some_at : (x : ℕ) {z n : ℕ} (j : ℕ) → j < n → z ≡ x + j → Has m z → SomeIn m x n
  some_at x j l e h = record { j = j; lt = l; here = subst (Has m) e h }

  -- a mark among the places of a part is one among those of the whole
  pub some_part : (x y : ℕ) {n k : ℕ} (d : ℕ) → y ≡ x + d → d + k ≤ n → SomeIn m y k → SomeIn m x n
  some_part x y d e l s = some_at x (d + s.j) (omega (arith, s.lt)) (omega arith) s.here

  -- rules 2 and 3, from the shared store g
  pub moved_from_in : (s : Plan) (t x g : ℕ) {q z y : ℕ} → MovedFrom s t x g q z y → Has m z → SomeIn m (x + g * s.l) s.l
  moved_from_in s t x g u hz = let v = u.given.given.1.1 in some_at _ v.k v.lt v.given.1 hz

  module _ {s : Plan} (h : Planned s) where
    -- rule 4
    pub steps_in_lem : {row : ℕ → Row} {n : ℕ} → EachIn s s.g s.l row n → (t a : ℕ) {q z y : ℕ} → StepUses s t a row n q z y → Has m z
        → SomeIn m (p_from s t a) s.k
    steps_in_lem fit t a u hz = let r = fit u.k u.lt in some_at _ _ (pair_lt h r.g r.l) (from_one u.given.1) hz

    -- rule 5
    pub pushes_in_lem : (rows : List ℕ) {n : ℕ} → EachIn s s.l s.f (row_of rows) n → (t a : ℕ) {q z y : ℕ} → PushUses s t a rows n q z y
        → Has m z → SomeIn m (p_from s t a) s.k
    pushes_in_lem rows fit t a u hz = let r = fit u.k u.lt in some_at _ _ (pair_lt h r.g r.l) (from_one u.given.1) hz

    -- rule 7
    pub pops_in_lem : (rows : List ℕ) {n : ℕ} → EachIn s s.f s.l (row_of rows) n → (t a : ℕ) {q z y : ℕ} → PopUses s t a rows n q z y
        → Has m z → SomeIn m (q_from s t a) (s.f * s.k)
    pops_in_lem rows fit t a u hz =
        let r = fit u.k u.lt in
        let d = (row_of rows u.k).u * s.k in
        some_part _ _ d refl (q_stretch h r.u) (some_at _ _ (pair_lt h r.g r.l) u.given.1.1 hz)

    -- rule 6
    pub calls_in : (t x : ℕ) {q z y : ℕ} → Upto (CallUse s t x) s.k q z y → Has m q → SomeIn m x s.k
    calls_in t x u hq = some_at _ u.k u.lt u.given.0 hq

    -- rules 2 and 3
    pub moved_in : (t x : ℕ) {q z y : ℕ} → Upto (MovedFrom s t x) s.g q z y → Has m z → SomeIn m x s.k
    moved_in t x u hz = some_part x _ (u.k * s.l) refl (cut h u.k u.lt) (moved_from_in s t x u.k u.given hz)
