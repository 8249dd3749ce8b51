-- The three ends of a run: more start facts than the budget; none left; nothing lacks.
use mathlib.Core.Path.{ap}
use native.Mathlib.Omega.{arith}
use Rattle.positions.specs.Plans.{Plan}
use Rattle.store.proofs.MarkLaws.{zeros_clear}
use Rattle.uses.proofs.PassLaws.{puts_le}
use Rattle.engine.proofs.GivenLaws.{rows_given, start_given}
use Rattle.engine.proofs.RunLaws.{worked_settled, over_at_start, over_when_spent, done_when_settled}
use Rattle.engine.proofs.run.run.Goals as goal

pub start-requires : goal.start-requires
start-requires c = (start_given c.requires.0.1.sound c.requires.0.1.plan c.requires.0.2, omega (arith, c.clear.auto.mem, c.requires.1))

pub work-end-requires : goal.work-end-requires
work-end-requires c = (rows_given c.requires.0.1, omega (arith, c.clear.auto.mem, c.start.auto.mem, c.requires.1))

pub returns-then-budget-started : goal.returns-then-budget-started
returns-then-budget-started c =
    let n_is = ap (λ (p : Plan). p.n) c.plan.view_is in
    λ T rows first. (
      zeros_clear _ c.clear-then-budget-started.ensures,
      over_at_start rows first c.args.mem.now c.requires.1 c.clear.ensures c.start.ensures (omega (arith, c.if-budget-started.true, c.plan.invariant.n_pos, n_is)),
    )

pub returns-then-end-eq0 : goal.returns-then-end-eq0
returns-then-end-eq0 c =
    let n_is = ap (λ (p : Plan). p.n) c.plan.view_is in
    λ T rows first. (
      zeros_clear _ c.clear-then-end-eq0.ensures,
      over_when_spent rows first c.args.mem.now c.requires.1 c.clear.ensures c.start.ensures (worked_settled c.work-end.ensures)
          (omega (arith, c.if-budget-started.false, c.plan.invariant.n_pos, n_is)) c.if-end-eq0.true,
    )

pub returns : goal.returns
returns c =
    let n_is = ap (λ (p : Plan). p.n) c.plan.view_is in
    let settled = worked_settled c.work-end.ensures in
    let less = puts_le settled.puts in
    let some = c.if-end-eq0.false in
    λ T rows first.
    done_when_settled rows first c.args.mem.now c.requires.1 c.clear.ensures c.start.ensures settled
    (omega (arith, c.if-budget-started.false, c.plan.invariant.n_pos, n_is)) (omega (arith, n_is, c.plan.invariant.n_pos)) (omega arith)
