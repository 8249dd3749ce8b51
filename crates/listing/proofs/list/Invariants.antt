-- Each line stands further on in the memory.
use Rattle.std.proofs.Common.{length, ◌-◌}
use Rattle.listing.proofs.list.Given as goal

abbrev pub decreases-loop-fact : goal.decreases-loop-fact
decreases-loop-fact g l = length l.mem - l.from
