-- The memory with the start facts (01, "The rules", rule 1): one put for each thread.
use Rattle.std.specs.Prelude.{List, ℕ, zero, suc}
use Rattle.positions.specs.Plans.{Plan}
use Rattle.store.specs.Marking.{marked}
use Rattle.engine.specs.StartFacts.{start_at}

-- the start facts of the first threads are marked
unfoldable pub begun : Plan → ℕ → List ℕ → ℕ → List ℕ → List ℕ
begun s g locals zero m = m
begun s g locals (suc t) m = marked (begun s g locals t m) (start_at s g locals t)
