-- If nothing lacks, nothing is done; else the first j uses are done.
use Rattle.store.proofs.MarkLaws.{is_false}
use Rattle.uses.proofs.PassLaws.{line_idle, upto_none, upto_next}
use Rattle.uses.proofs.lines.line.Goals as goal

pub returns-then-not-lacks : goal.returns-then-not-lacks
returns-then-not-lacks c = line_idle _ _ _ (is_false _ c.lacks.ensures c.if-not-lacks.true)

pub loop-j-init : goal.loop-j-init
loop-j-init c = upto_none _

pub loop-j-preserved : goal.loop-j-preserved
loop-j-preserved c = upto_next _ c.loop-j.invariant c.one-sofar.ensures
