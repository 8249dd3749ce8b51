-- Each kind has its part of the positions.
use mathlib.Core.Path.{sym, ap, subst, ◌∙◌}
use native.Mathlib.Omega.{arith}
use Rattle.positions.specs.Plans.{Plan, Planned}
use Rattle.fact_text.specs.Facts.{fields_of}
use Rattle.fact_text.proofs.FactLaws.{fact_g, fact_p, fact_q, frames}
use Rattle.fact_text.proofs.facts.fact_at.Goals as goal

pub returns-then-p-s : goal.returns-then-p-s
returns-then-p-s c =
    let h = subst Planned c.s.view_is c.s.invariant in
    let p = ap (λ (s : Plan). s.p) c.s.view_is in
    c.g_fact.ensures ∙ ap fields_of (sym (fact_g h _ (omega arith)))

pub returns-then-p-s-2 : goal.returns-then-p-s-2
returns-then-p-s-2 c =
    let h = subst Planned c.s.view_is c.s.invariant in
    let p = ap (λ (s : Plan). s.p) c.s.view_is in
    let q = ap (λ (s : Plan). s.q) c.s.view_is in
    rw p at c.p_fact.ensures ∙ ap fields_of (sym (fact_p h _ (omega arith) (omega arith)))

pub q_fact-requires : goal.q_fact-requires
q_fact-requires c =
    let h = subst Planned c.s.view_is c.s.invariant in
    let q = ap (λ (s : Plan). s.q) c.s.view_is in
    frames h _ (omega arith) c.requires

pub returns-else-p-s-2 : goal.returns-else-p-s-2
returns-else-p-s-2 c =
    let h = subst Planned c.s.view_is c.s.invariant in
    let p = ap (λ (s : Plan). s.p) c.s.view_is in
    let q = ap (λ (s : Plan). s.q) c.s.view_is in
    rw q at c.q_fact.ensures ∙ ap fields_of (sym (fact_q h _ (omega arith) (omega arith)))
