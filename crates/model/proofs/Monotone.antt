-- More facts yield more facts and allow more errors. So sets of the same facts have the same verdict and the same finding.
use mathlib.Core.Option.{Option}
use Prim.Native.Nat.{ℕ}
use Rattle.files.specs.Table.{Table}
use Rattle.model.specs.Rules.{
  Fact,
  Yields,
  env_P,
  env_Q,
  step_P,
  step_G,
  push_Q,
  push_P,
  call,
  pop_P,
  ClosedWithStarts,
}
use Rattle.model.specs.Errors.{Witness, Allows, Safe}
use Rattle.model.specs.Verdict.{Verdict, safe, possible}
use Rattle.model.specs.Claims.{First, LacksStart, Missing, AllowsRow, Finding, Finds, whole, lacking, missing, allowing}

module _ {T : Table} {S S' : Fact → Type 0} (sub : (f : Fact) → S f → S' f) where
  pub yields_mono : (f : Fact) → Yields T S f → Yields T S' f
  yields_mono f (env_P p q ne) = env_P (sub _ p) (sub _ q) ne
  yields_mono f (env_Q p q ne) = env_Q (sub _ p) (sub _ q) ne
  yields_mono f (step_P p r) = step_P (sub _ p) r
  yields_mono f (step_G p r) = step_G (sub _ p) r
  yields_mono f (push_Q p r) = push_Q (sub _ p) r
  yields_mono f (push_P p r) = push_P (sub _ p) r
  yields_mono f (call p q) = call (sub _ p) (sub _ q)
  yields_mono f (pop_P p r) = pop_P (sub _ p) r

  pub allows_mono : (w : Witness) → Allows T S w → Allows T S' w
  allows_mono w a =
      record {
        count = a.count;
        erroneous = a.erroneous;
        reached = λ t h. record { g₁ = _; l₁ = _; fact = sub _ (a.reached t h).fact };
      }

  -- fewer facts are safe where more are
  pub safe_fewer : Safe T S' → Safe T S
  safe_fewer s w a = s w (allows_mono w a)

-- a number is the smallest of either of two equal sets of numbers
first_cast : {A B : ℕ → Type 0} {p : ℕ} → ((q : ℕ) → A q → B q) → ((q : ℕ) → B q → A q) → First A p → First B p
first_cast {p} to fro f = record { here = to p f.here; none = λ q l b. f.none q l (fro q b) }

-- what is said of a set of facts is said of another set of the same facts
module _ {T : Table} {S S' : Fact → Type 0} (to : (f : Fact) → S f → S' f) (fro : (f : Fact) → S' f → S f) where
  both_cast : ClosedWithStarts T S → ClosedWithStarts T S'
  both_cast c = record { starts = λ t h. to _ (c.starts t h); closed = λ f y. to f (c.closed f (yields_mono fro f y)) }

  lacks_start_cast : (t : ℕ) → LacksStart T S t → LacksStart T S' t
  lacks_start_cast t l = record { thread = l.thread; not = λ s. l.not (fro _ s) }

  missing_cast : (p : ℕ) → Missing T S p → Missing T S' p
  missing_cast p m = record { below = m.below; yields = yields_mono to _ m.yields; not = λ s. m.not (fro _ s) }

  row_cast : (row : ℕ) → AllowsRow T S row → AllowsRow T S' row
  row_cast row a = record { witness = a.witness; by = a.by; allows = allows_mono to _ a.allows }

  pub verdict_cast : {v : Option Witness} → Verdict T S v → Verdict T S' v
  verdict_cast (safe s) = safe (safe_fewer fro s)
  verdict_cast (possible {w} s) =
      possible (record { allowed = allows_mono to w s.allowed; least = λ v a. s.least v (allows_mono fro v a) })

module _ {T : Table} {S S' : Fact → Type 0} (to : (f : Fact) → S f → S' f) (fro : (f : Fact) → S' f → S f) where
  pub finding_cast : {a : Finding} → Finds T S a → Finds T S' a
  finding_cast (whole c s) = whole (both_cast to fro c) (safe_fewer fro s)
  finding_cast (lacking f) = lacking (first_cast (lacks_start_cast to fro) (lacks_start_cast fro to) f)
  finding_cast (missing s f) = missing (λ t h. to _ (s t h)) (first_cast (missing_cast to fro) (missing_cast fro to) f)
  finding_cast (allowing c f) = allowing (both_cast to fro c) (first_cast (row_cast to fro) (row_cast fro to) f)
