-- The verdict on the facts says whether an error is allowed, and which row's is the first.
use Rattle.findings.proofs.FoundLaws.{nothing_found, row_allows}
use Rattle.findings.proofs.find.find_error.Goals as goal

pub returns-in-Safe : goal.returns-in-Safe
returns-in-Safe c =
    λ T st closed. nothing_found closed (rw (← c.facts.ensures.same) (c.judge.ensures T (c.errors.ensures.of_table T _ st (c.facts.ensures.plan T st)))) c.in-Safe.is

pub returns-in-Possible : goal.returns-in-Possible
returns-in-Possible c =
    λ T st closed. row_allows closed (rw (← c.facts.ensures.same) (c.judge.ensures T (c.errors.ensures.of_table T _ st (c.facts.ensures.plan T st)))) c.in-Possible.is
