-- What a claim check finds. Of marks, as of every set that is decided, a fact is there or not: so if no start fact is lacking the start
-- facts are held, and if no position is missing the set is closed. The smallest row of an allowed error is that of the smallest witness. And a
-- memory that marks the positions that a claim lists, and no others, holds the claimed facts.
use mathlib.Core.Path.{refl, sym, subst}
use mathlib.Core.Logic.Dec
use mathlib.Core.List.Memᴰ
use mathlib.Core.List.{List, Memᴰ}
use Prim.Native.Nat.{ℕ, ◌≤◌, ◌<◌}
use native.Mathlib.Decide.{ℕ_discrete, map_dec}
use native.Mathlib.Omega.{arith}
use lib.ListN.{length}
use Rattle.files.specs.Table.{Table, Sound, W}
use Rattle.model.specs.Rules.{Fact, Starts, Closed}
use Rattle.model.specs.Errors.{Witness}
use Rattle.model.specs.Verdict.{SmallestWitness}
use Rattle.model.specs.Positions.{Fits, pos, fact_at}
use Rattle.model.specs.Memory.{mark, Says, Holds, Marked}
use Rattle.model.specs.Claims.{Claimed, First, LacksStart, Missing, AllowsRow}
use Rattle.model.proofs.Monotone.{yields_mono}
use Rattle.model.proofs.Positions.{pos_lt, fact_at_pos, fact_at_inj, fact_at_stands}
use Rattle.model.proofs.InRange.{fits_closed_with_starts}
use Rattle.model.proofs.Memory.{says_cast}
use Rattle.model.proofs.Order.{head_le}

-- ---- what a set lacks

module _ {T : Table} (sound : Sound T) {S : Fact → Type 0} (fits : (f : Fact) → S f → Fits T f) (d : (f : Fact) → Fits T f → Dec (S f)) where
  pub none_lacking_starts : ((t : ℕ) → t < T.n → ¬ LacksStart T S t) → Starts T S
  none_lacking_starts none t h =
      (Dec.not-not (d _ ((fits_closed_with_starts sound).starts t h))).0 (λ n. none t h (record { thread = h; not = n }))

  pub none_missing_closed : ((p : ℕ) → p < W T → ¬ Missing T S p) → Closed T S
  none_missing_closed none f y =
      let i : Fits T f = (fits_closed_with_starts sound).closed f (yields_mono fits f y) in
      let l = pos_lt T f i in
      (Dec.not-not (d f i)).0
      (λ n. none (pos T f) l (record { below = l; yields = rw (fact_at_pos T f i) y; not = rw (fact_at_pos T f i) n }))

-- the facts that a memory marks
pub marked_closed : {T : Table} → Sound T → (mem : List ℕ) → ((p : ℕ) → ¬ Missing T (Marked T mem) p) → Closed T (Marked T mem)
marked_closed {T} sound mem none = none_missing_closed sound (λ f m. m.fits) marked? (λ p l. none p)
  where
    marked? : (f : Fact) → Fits T f → Dec (Marked T mem f)
    marked? f i = map_dec (λ e. record { fits = i; one = e }) (λ m. m.one) (ℕ_discrete (mark mem (pos T f)) 1)

-- ---- the row of the smallest witness

pub witness_row : {T : Table} {S : Fact → Type 0} {w : Witness} → SmallestWitness T S w → First (AllowsRow T S) w.row
witness_row {w} s =
    record {
      here = record { witness = w; by = refl; allows = s.allowed };
      none = λ row l a. absurd (omega (arith, head_le (s.least a.witness a.allows), a.by));
    }

-- ---- the facts at listed positions

module _ {T : Table} (sound : Sound T) (ps : List ℕ) (below : (p : ℕ) → Memᴰ p ps → p < W T) where
  pub claimed_fits : (f : Fact) → Claimed T ps f → Fits T f
  claimed_fits f m =
      let (p, i, e) = Memᴰ.of_map (fact_at T) ps m in
      subst (Fits T) e (fact_at_stands sound p (below p i)).fits

  -- the fact at p is claimed only if p is listed
  claimed_listed : (p : ℕ) → p < W T → Claimed T ps (fact_at T p) → Memᴰ p ps
  claimed_listed p l m = let (q, i, e) = Memᴰ.of_map (fact_at T) ps m in Memᴰ.cast (fact_at_inj sound l (below q i) (sym e)) i

  pub claimed_held : (mem : List ℕ) → W T ≤ length mem → ((p : ℕ) → p < W T → Says (Memᴰ p ps) (mark mem p))
      → Holds T (Claimed T ps) mem
  claimed_held mem long says =
      record { long = long; says = λ p l. says_cast (λ i. Memᴰ.map (fact_at T) i) (claimed_listed p l) (says p l) }
