-- `check_call::check::run_in` meets its contract: the lent rows are the table's, and the part that is lent has W bytes.
use native.Mathlib.Omega.{arith}
use lib.Seq.{take_at, length-take-le}
use Rattle.check_call.proofs.LentRows.{stored_begins}
use Rattle.check_call.proofs.Outcomes.{w_by}
use Rattle.check_call.proofs.check.run_in.Goals as goal

pub run-requires : goal.run-requires
run-requires c =
    let ((T, st, wide), room) = c.requires in
    let plan = c.plan.ensures T st in
    ((T, c.lists.ensures.of_table T _ st plan, stored_begins st c.from-start.ensures), omega (arith, wide, w_by T plan, length-take-le c.args.w c.args.mem.now room))

pub returns-clause-ran : goal.returns-clause-ran
returns-clause-ran c =
    let long = length-take-le c.args.w c.args.mem.now c.requires.1 in
    λ T st.
    let plan = c.plan.ensures T st in
    rw (take_at c.run.new.mem _ c.args.w (omega (arith, c.run.auto.mem, long)))
    (c.run.ensures T (c.lists.ensures.of_table T _ st plan) (stored_begins st c.from-start.ensures))
