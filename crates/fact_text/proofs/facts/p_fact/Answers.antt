-- `fact_text::facts::p_fact` meets its contract: the digits of i, taken off from the right as model's at_p does. No size is 0.
use mathlib.Core.Path.{ap}
use Rattle.model.specs.Positions.{at_p}
use Rattle.fact_text.specs.Facts.{bare_table, fields_of}
use Rattle.fact_text.proofs.facts.p_fact.Goals as goal

pub returns : goal.returns
unfolding at_p
returns c = ap (λ s. fields_of (at_p (bare_table s) c.args.i)) c.s.view_is
