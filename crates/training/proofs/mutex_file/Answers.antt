-- `training::mutex_file` meets its contract: the constant passes the test of the rule, as the training table's does.
use mathlib.Core.Path.{refl}
use Rattle.training.specs.Training.{mutex}
use Rattle.training.proofs.TrainingRule.{by_rule, by_rule_same}
use Rattle.training.proofs.mutex_file.Goals as goal

pub returns : goal.returns
unfolding by_rule mutex
returns c = by_rule_same mutex _ refl
