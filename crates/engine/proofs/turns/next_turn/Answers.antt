-- The stretch was gone over by rules 4, 5 and 2. If none is left, the work ends; if the stretch gave something, it has its turn again; else the next
-- stretch with a mark has, and if there is none the round ends.
use mathlib.Core.Path.{sym, ◌∙◌}
use native.Mathlib.Omega.{arith}
use Rattle.uses.proofs.PassLaws.{and_then}
use Rattle.engine.proofs.TurnLaws.{goes_spent, goes_again, goes_next, stretches_done}
use Rattle.engine.proofs.turns.next_turn.Goals as goal

pub returns-then-left-eq0-clause-follows : goal.returns-then-left-eq0-clause-follows
returns-then-left-eq0-clause-follows c =
    λ st b had m₀ m₁ e given t stepped.
    goes_spent _ _ _ _ _ t (and_then stepped c.p_rest.ensures.swept) c.if-left-eq0.true

pub returns-then-left-had-clause-follows : goal.returns-then-left-had-clause-follows
returns-then-left-had-clause-follows c =
    λ st b had m₀ m₁ e given t stepped.
    goes_again _ _ _ _ _ t (and_then stepped c.p_rest.ensures.swept) (λ f. c.if-left-had.true (f ∙ e))

pub returns-in-Some-clause-follows : goal.returns-in-Some-clause-follows
returns-in-Some-clause-follows c =
    λ st b had m₀ m₁ e given t stepped.
    let (found, before_last, here) = rw c.p_rest.ensures.kept.plan at c.in-Some.ensures in
    goes_next _ _ _ _ _ t (and_then stepped c.p_rest.ensures.swept) given found (c.if-left-had.false ∙ sym e) before_last

pub returns-in-None-clause-follows : goal.returns-in-None-clause-follows
returns-in-None-clause-follows c =
    λ st b had m₀ m₁ e given t stepped.
    let kept = c.p_rest.ensures.kept in
    let found = rw kept.plan at c.in-None.ensures in
    let ends = rw (kept.plan, kept.put) at c.end_of_round.ensures.ends in
    ends st _ b had m₀ (stretches_done _ _ _ _ _ t (and_then stepped c.p_rest.ensures.swept) given found (omega arith))
