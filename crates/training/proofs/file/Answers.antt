-- `training::file` meets its contract: the constant passes the test of the rule, which antt computes once over all 576 entries.
use mathlib.Core.Path.{refl}
use Rattle.training.specs.Training.{training}
use Rattle.training.proofs.TrainingRule.{by_rule, by_rule_same}
use Rattle.training.proofs.file.Goals as goal

pub returns : goal.returns
unfolding by_rule training
returns c = by_rule_same training _ refl
