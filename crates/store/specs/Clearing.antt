-- A memory that is cleared (01, "What comes back").
use Rattle.std.specs.Prelude.{◌≡◌, List, ℕ, take, drop, replicate}

-- the first w bytes are 0, and the others as they were ("8 to 12 set the first W bytes to 0", 01, "What comes back")
pub record Cleared (w : ℕ) (m m' : List ℕ) : Type 0 where
  pub zeros : take w m' ≡ replicate w 0
  pub rest : drop w m' ≡ drop w m
