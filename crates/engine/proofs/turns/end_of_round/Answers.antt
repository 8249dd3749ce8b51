-- Rules 2, 4 and 5 were gone over on every stretch in this round. If it put many marks, another begins. Else the Q facts are gone over, and so
-- every use was: if nothing was put, nothing lacks; if none is left, nothing is claimed; else another round begins.
use native.Mathlib.Omega.{arith}
use Rattle.engine.proofs.TurnLaws.{begins_anew, all_covered, all_fewer, ends_settled, ends_spent}
use Rattle.engine.proofs.turns.end_of_round.Goals.{then-left-turn-via-then-left-turn, then-left-turn-via-else-left-turn+then-left-eq0}
use Rattle.engine.proofs.turns.end_of_round.Goals as goal

pub returns-then-saturating_sub-stretch_count-clause-ends : goal.returns-then-saturating_sub-stretch_count-clause-ends
returns-then-saturating_sub-stretch_count-clause-ends c =
    λ st pu b had m₀ done.
    begins_anew _ _ _ _ _ (omega (arith, done.stretch)) done.covered done.fewer
    (λ e. omega (arith, c.if-saturating_sub-stretch_count.true, c.saturating_sub.ensures))

pub returns-then-left-turn-clause-ends : goal.returns-then-left-turn-clause-ends
returns-then-left-turn-clause-ends c =
    λ st pu b had m₀ done.
    elim c.then-left-turn.branch [
      | then-left-turn-via-then-left-turn w ↦ ends_settled _ _ _ _ _ done c.q_facts.ensures.swept w.if-left-turn.true
      | then-left-turn-via-else-left-turn+then-left-eq0 w ↦ ends_spent _ _ _ _ _ done c.q_facts.ensures.swept w.if-left-eq0.true
    ]

pub returns-clause-ends : goal.returns-clause-ends
returns-clause-ends c =
    λ st pu b had m₀ done.
    let swept = c.q_facts.ensures.swept in
    begins_anew _ _ _ _ _ (omega (arith, done.stretch)) (all_covered _ _ _ _ _ done swept) (all_fewer _ _ _ _ _ done swept) c.if-left-turn.false
