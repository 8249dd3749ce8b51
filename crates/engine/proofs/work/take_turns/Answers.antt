-- `engine::work::take_turns` meets its contract: it owns the list of step rows, and lends the first n of them to rule 4's walker in each turn.
use mathlib.Core.Path.{◌≡◌, sym, subst}
use Prim.Native.Nat.{◌<◌}
use Rattle.std.specs.Prelude.{Option}
use Rattle.std.proofs.Common.{rules, arith, ◌≤◌, length}
use Rattle.uses.proofs.SweepLaws.{kept_none, kept_then}
use Rattle.steps.proofs.ListLaws.{taken_in}
use Rattle.engine.specs.declared.turns.Turn.{Turn}
use Rattle.engine.specs.Turns.{Goes, turns_left}
use Rattle.engine.proofs.TurnLaws.{first_turning}
use Rattle.engine.proofs.WorkLaws.{goes_on}
use Rattle.engine.proofs.work.take_turns.Goals as goal

-- the turn that follows
goes : (c : goal.After-next_turn-next) → let a = c.args in let s = a.sweep.now in let r = a.rows.now in let new = c.next_turn-next.new.sweep in
    Goes s.plan r.counts r.steps.now r.pushes.now r.pops.now s.put s.pass c.in-Some.turn c.loop-next.sweep.pass c.next_turn-next.result new.pass
    s.mem.now new.mem.now
goes c =
    let room : length c.step_rows-steps.result ≡ 1024 = search rules in
    let few : c.args.rows.now.counts.steps ≤ 1024 = c.requires.few in
    let i = c.loop-next.invariant in
    let turning = rw c.in-Some.is at i.next in
    goes_on _ c.step_rows-steps.ensures (omega arith) i.kept _ c.thread_and_pair-t.ensures.thread.0 c.thread_and_pair-t.ensures.pair.0 c.walk.ensures
    c.next_turn-next.new.sweep c.requires turning c.next_turn-next.ensures.follows

pub loop-next-init : goal.loop-next-init
loop-next-init c = record { kept = kept_none; next = first_turning _ _ _ _ _ c.requires.plan _ _ _ }

pub walk-requires : goal.walk-requires
walk-requires c =
    let room : length c.step_rows-steps.result ≡ 1024 = search rules in
    let few : c.args.rows.now.counts.steps ≤ 1024 = c.requires.few in
    rw c.loop-next.invariant.kept.plan
    (c.thread_and_pair-t.ensures.thread.1, c.thread_and_pair-t.ensures.pair.1, taken_in _ c.step_rows-steps.ensures (omega arith) c.requires.steps.fit)

pub loop-next-smaller : goal.loop-next-smaller
loop-next-smaller c =
    let s = c.args.sweep.now.plan in
    subst (λ (r : Option Turn). turns_left s c.next_turn-next.result c.next_turn-next.new.sweep.pass.left < turns_left s r c.loop-next.sweep.pass.left)
    (sym c.in-Some.is) (goes c).fewer

pub loop-next-preserved : goal.loop-next-preserved
loop-next-preserved c =
    record {
      kept = kept_then (kept_then c.loop-next.invariant.kept c.walk.ensures.kept) c.next_turn-next.ensures.kept;
      next = (goes c).next;
    }

pub returns-clause-worked : goal.returns-clause-worked
returns-clause-worked c = rw c.in_default.is at c.loop-next.invariant.next
