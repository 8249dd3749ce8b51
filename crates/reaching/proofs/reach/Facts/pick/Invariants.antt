-- No thread before t has k for its smallest store, and `last` is the last of them that reaches k.
use Rattle.reaching.specs.Reaching.{Reached}
use Rattle.reaching.proofs.Numbers.{Picking}
use Rattle.reaching.proofs.reach.Facts.pick.Given as goal

abbrev pub invariant-loop-t : goal.invariant-loop-t
invariant-loop-t l = Picking (Reached l.self.plan l.self.mem.now l.g) l.k l.t l.last
