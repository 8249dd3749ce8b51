-- The start facts of the first t threads are marked.
use Rattle.engine.proofs.StartLaws.{begun_none, begun_next}
use Rattle.engine.proofs.run.start.Goals as goal

pub loop-t-init : goal.loop-t-init
loop-t-init c =
    let a = c.args in begun_none a.s a.g a.locals.now a.mem.now

pub loop-t-preserved : goal.loop-t-preserved
loop-t-preserved c =
    let a = c.args in
    begun_next a.s a.g a.locals.now c.loop-t.t a.mem.now c.start_at.ensures.0 c.loop-t.invariant c.put_mark.ensures
