-- The memory that is lent again is as long as before.
use Rattle.std.proofs.Common.{sym, arith}
use lib.Seq.{length-take-le}
use Rattle.check_run.proofs.bench.Goals as goal

pub slice_bounds-check_in-length : goal.slice_bounds-check_in-length
slice_bounds-check_in-length g c = sym (length-take-le 65535 c.check_in-2.new.mem (omega arith))
