-- The fact at a position, by the plan of a table (document 01, "Working memory and claims"). Only contracts of functions that ask for a plan cite it.
use Rattle.std.specs.Prelude.{[], ℕ}
use Rattle.files.specs.Table.{Table}
use Rattle.model.specs.Rules.{Fact, G, P, Q}
use Rattle.model.specs.Positions.{fact_at}
use Rattle.positions.specs.Plans.{Plan}
use Rattle.fact_text.specs.declared.facts.FactFields.{FactFields}
use Rattle.fact_text.specs.declared.facts.FactFields.TheVariants as fields

-- A table with a plan's sizes and nothing else. What stands at a position hangs on the sizes alone, so it serves for any table of the plan.
abbrev pub bare_table : Plan → Table
bare_table s =
    record {
      n = s.n;
      G = s.g;
      L = s.l;
      F = s.f;
      failed = 0;
      g₀ = 0;
      locals = [];
      steps = [];
      pushes = [];
      pops = [];
      errors = [];
    }

-- the fact at position p
abbrev pub plan_fact : Plan → ℕ → Fact
plan_fact s p = fact_at (bare_table s) p

-- a fact as the code answers it
abbrev pub fields_of : Fact → FactFields
fields_of (G t g g') = fields.G t g g'
fields_of (P t g l g' l') = fields.P t g l g' l'
fields_of (Q t g l f g' l') = fields.Q t g l f g' l'
