-- What is found on a memory that holds a set of facts is found of that set: the memory marks its facts and no others.
--     finds_of_held    for any set of facts that are in range
--     finds_of_claim   for the facts at the positions that a claim lists
use mathlib.Core.List.{List, Memᴰ}
use Prim.Native.Nat.{ℕ, ◌<◌}
use Rattle.files.specs.Table.{Table, Sound, W}
use Rattle.model.specs.Rules.{Fact}
use Rattle.model.specs.Positions.{Fits}
use Rattle.model.specs.Memory.{Holds, Marked}
use Rattle.model.specs.Claims.{Claimed, Finding, Finds}
use Rattle.model.proofs.Monotone.{finding_cast}
use Rattle.model.proofs.Memory.{marked_in, in_marked}
use Rattle.model.proofs.Claims.{claimed_fits}

module _ {T : Table} {mem : List ℕ} {x : Finding} where
  pub finds_of_held : {S : Fact → Type 0} → Holds T S mem → ((f : Fact) → S f → Fits T f) → Finds T (Marked T mem) x → Finds T S x
  finds_of_held h fits = finding_cast (marked_in h) (λ f a. in_marked h f (fits f a) a)

  pub finds_of_claim : {ps : List ℕ} → Sound T → ((p : ℕ) → Memᴰ p ps → p < W T) → Holds T (Claimed T ps) mem
      → Finds T (Marked T mem) x → Finds T (Claimed T ps) x
  finds_of_claim {ps} sound below h = finds_of_held h (claimed_fits sound ps below)
