-- What is found of a claim that lists its facts: accepted, a start fact that is lacking, a missing position, or an allowed error; each
-- found by trying the threads, positions or rows from 0 on.
use mathlib.Core.Logic.Dec
use mathlib.Core.List.{List, map, Memᴰ}
use Prim.Native.Nat.{ℕ, ◌<◌}
use native.Mathlib.Decide.{dec_lt, map_dec}
use Rattle.files.specs.Table.{Table, W}
use Rattle.model.specs.Rules.{Fact, start_fact}
use Rattle.model.specs.Positions.{base_p, base_q, at_g, at_p, at_q, fact_at}
use Rattle.model.specs.Claims.{
  Claimed,
  LacksStart,
  Missing,
  Finding,
  accepted,
  lacks_start,
  not_closed,
  allows_error,
  Finds,
  whole,
  lacking,
  missing,
  allowing,
}
use Rattle.model.proofs.Decide.{member?, first?}
use Rattle.model.proofs.Decide.Yields.{fact?, yields?, starts?, closed?}
use Rattle.model.proofs.Decide.Errors.{safe?, allows_row?}

module _ (T : Table) (fs : List Fact) where
  pub lacks_start? : (t : ℕ) → Dec (LacksStart T (λ f. Memᴰ f fs) t)
  unfolding dec_lt Dec.and Dec.not member? fact?
  lacks_start? t =
      map_dec (λ (h, n). record { thread = h; not = n }) (λ l. (l.thread, l.not))
      (Dec.and (dec_lt t T.n) (Dec.not (member? fact? (start_fact T t) fs)))

  pub missing? : (p : ℕ) → Dec (Missing T (λ f. Memᴰ f fs) p)
  unfolding dec_lt Dec.and Dec.not member? fact? yields? W base_p base_q at_g at_p at_q fact_at
  missing? p =
      map_dec (λ (l, (y, n)). record { below = l; yields = y; not = n }) (λ m. (m.below, (m.yields, m.not)))
      (Dec.and (dec_lt p (W T)) (Dec.and (yields? T fs (fact_at T p)) (Dec.not (member? fact? (fact_at T p) fs))))

-- whether a fact is claimed
pub claimed? : (T : Table) (ps : List ℕ) (f : Fact) → Dec (Claimed T ps f)
claimed? T ps f = member? fact? f (map (fact_at T) ps)

unfoldable pub finding? : (T : Table) → 0 < T.n → (fs : List Fact) (a : Finding) → Dec (Finds T (λ f. Memᴰ f fs) a)
unfolding Dec.and first? starts? closed? safe? lacks_start? missing? allows_row?
finding? T hn fs accepted = map_dec (λ (c, s). whole c s) (λ h. elim h [ whole c s ↦ (c, s) ]) (Dec.and (closed? T fs) (safe? T hn fs))
finding? T hn fs (lacks_start t) = map_dec lacking (λ h. elim h [ lacking f ↦ f ]) (first? (lacks_start? T fs) t)
finding? T hn fs (not_closed p) =
    map_dec (λ (s, f). missing s f) (λ h. elim h [ missing s f ↦ (s, f) ]) (Dec.and (starts? T fs) (first? (missing? T fs) p))
finding? T hn fs (allows_error row) =
    map_dec (λ (c, f). allowing c f) (λ h. elim h [ allowing c f ↦ (c, f) ]) (Dec.and (closed? T fs) (first? (allows_row? T hn fs) row))
