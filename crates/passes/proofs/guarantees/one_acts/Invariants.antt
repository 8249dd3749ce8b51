-- The guarantee of none of the first e threads acts.
use Rattle.store.specs.Marking.{Among}
use Rattle.passes.specs.Acting.{Acts}
use Rattle.passes.proofs.guarantees.one_acts.Given as goal

abbrev pub invariant-loop-e : goal.invariant-loop-e
invariant-loop-e l = ¬ Among (Acts l.sweep.plan l.t l.sweep.mem.now l.from l.to) l.e
