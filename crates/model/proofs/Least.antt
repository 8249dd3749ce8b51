-- The least relations hold the start facts, are closed, and lie in every set that does both; and what two such sets share is such a set.
-- A derivation is an induction: each use of a rule from derivable facts is one more step, and a closed set makes each step too.
use Rattle.files.specs.Table.{Table}
use Rattle.model.specs.Rules.{
  Fact,
  env_P,
  env_Q,
  step_P,
  step_G,
  push_Q,
  push_P,
  call,
  pop_P,
  Closed,
  ClosedWithStarts,
  Derives,
  start,
  by,
}
use Rattle.model.specs.Errors.{Witness, Allows, Safe}
use Rattle.model.proofs.Lists.{mem_first, mem_second, from_one, from_two}
use Rattle.model.proofs.Monotone.{yields_mono, allows_mono, safe_fewer}

module _ (T : Table) where
  pub derives_closed : Closed T (Derives T)
  derives_closed f (env_P p q ne) = by _ (env_P mem_first mem_second ne) (λ f. from_two (Derives T) p q)
  derives_closed f (env_Q p q ne) = by _ (env_Q mem_first mem_second ne) (λ f. from_two (Derives T) p q)
  derives_closed f (step_P p r) = by _ (step_P mem_first r) (λ f. from_one (Derives T) p)
  derives_closed f (step_G p r) = by _ (step_G mem_first r) (λ f. from_one (Derives T) p)
  derives_closed f (push_Q p r) = by _ (push_Q mem_first r) (λ f. from_one (Derives T) p)
  derives_closed f (push_P p r) = by _ (push_P mem_first r) (λ f. from_one (Derives T) p)
  derives_closed f (call p q) = by _ (call mem_first mem_second) (λ f. from_two (Derives T) p q)
  derives_closed f (pop_P p r) = by _ (pop_P mem_first r) (λ f. from_one (Derives T) p)

  -- the least relations hold the start facts and are closed
  pub derives_closed_with_starts : ClosedWithStarts T (Derives T)
  derives_closed_with_starts = record { starts = start; closed = derives_closed }

module _ {T : Table} {S : Fact → Type 0} (c : ClosedWithStarts T S) where
  -- they lie in every such set
  pub least : (f : Fact) → Derives T f → S f
  least f (start t h) = c.starts t h
  least f (by used y ds) = c.closed f (yields_mono (λ q m. least q (ds q m)) f y)

  -- so whatever they allow, every such set allows; and where one is safe, they are
  pub least_allows : (w : Witness) → Allows T (Derives T) w → Allows T S w
  least_allows = allows_mono least

  pub least_safe : Safe T S → Safe T (Derives T)
  least_safe = safe_fewer least

-- what two such sets share is such a set
pub common_closed_with_starts : {T : Table} {S S' : Fact → Type 0} → ClosedWithStarts T S → ClosedWithStarts T S'
    → ClosedWithStarts T (λ f. S f × S' f)
common_closed_with_starts c c' =
    record {
      starts = λ t h. (c.starts t h, c'.starts t h);
      closed = λ f y. (c.closed f (yields_mono (λ q s. s.0) f y), c'.closed f (yields_mono (λ q s. s.1) f y));
    }
