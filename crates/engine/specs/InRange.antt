-- What is given is in range. Of a sound table it is so, and the engine's own functions ask for no more.
use Rattle.std.specs.Prelude.{List, ℕ, ◌<◌, ◌≤◌, get_or, length}
use Rattle.files.specs.Table.{most_steps}
use Rattle.store.specs.declared.rows.RowCounts.{RowCounts}
use Rattle.positions.specs.Plans.{Plan, Planned}
use Rattle.uses.specs.Ranges.{RowsIn}

-- a step row ends in g', l'; a push row in l', f; a pop row in f, l'
pub record Given (s : Plan) (n : RowCounts) (st pu po : List ℕ) : Type 0 where
  pub plan : Planned s
  pub few : n.steps ≤ most_steps
  pub steps : RowsIn s s.g s.l st n.steps
  pub pushes : RowsIn s s.l s.f pu n.pushes
  pub pops : RowsIn s s.f s.l po n.pops

-- the initial stores are in range
pub record StartIn (s : Plan) (g₀ : ℕ) (locals : List ℕ) : Type 0 where
  pub long : s.n ≤ length locals
  pub shared : g₀ < s.g
  pub local : (t : ℕ) → t < s.n → get_or locals t 0 < s.l
