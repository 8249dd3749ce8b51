-- `check_call::check::check_stored` meets its contract: the plan and the lent rows are the table's, so the engine and the verdict answer for it.
use Rattle.check_call.proofs.Outcomes.{answer_short, answer_over, answer_done}
use Rattle.check_call.proofs.check.check_stored.Goals as goal

pub returns-then-mem-w : goal.returns-then-mem-w
returns-then-mem-w c = λ T st. answer_short (c.w-w.ensures.of_table T st) c.if-mem-w.true

pub returns-in_default : goal.returns-in_default
returns-in_default c =
    λ T st. answer_over st.sound (c.w-w.ensures.of_table T st) c.if-mem-w.false c.run_in.auto.mem c.run_in.ensures.rest (c.in_default.ensures.ran T st)

pub returns : goal.returns
returns c =
    λ T st.
    answer_done st.sound (c.w-w.ensures.of_table T st) c.if-mem-w.false c.run_in.auto.mem c.run_in.ensures.rest (c.in-Some.ensures.ran T st)
    (rw (← c.facts.ensures.same) (c.judge-verdict.ensures T (c.errors.ensures.of_table T _ st (c.facts.ensures.plan T st))))
