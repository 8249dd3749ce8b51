-- What a pass at the positions of a plan does, from before to after it.
use Rattle.std.specs.Prelude.{◌≡◌, ℕ}
use Rattle.uses.specs.declared.sweep.Sweep.{Sweep}
use Rattle.uses.specs.Passing.{Swept}

-- it is in the same memory, by the same plan, and marks are put or looked at as before
pub record Kept (old new : Sweep) : Type 0 where
  pub name : new.mem.ghost_name ≡ old.mem.ghost_name
  pub plan : new.plan ≡ old.plan
  pub put : new.put ≡ old.put

-- the uses U were gone over
pub record Did (U : ℕ → ℕ → ℕ → Type 0) (old new : Sweep) : Type 0 where
  pub kept : Kept old new
  pub swept : Swept U old.put old.pass new.pass old.mem.now new.mem.now
