-- Two results that a contract allows are equal: for each public function, of its contract as the prover reads it from the source (`Post`).
use Rattle.numbers.proofs.Unique.{same, Fixes}
use Rattle.positions.proofs.plan.Plan.new.Reads as new
use Rattle.positions.proofs.plan.Plan.new.Kinds as new-kinds
use Rattle.positions.proofs.plan.Plan.of.Reads as of
use Rattle.positions.proofs.plan.Plan.of.Kinds as of-kinds
use Rattle.positions.proofs.plan.Plan.pair.Reads as pair
use Rattle.positions.proofs.plan.Plan.pair.Kinds as pair-kinds
use Rattle.positions.proofs.plan.Plan.p_at.Reads as p-at
use Rattle.positions.proofs.plan.Plan.p_at.Kinds as p-at-kinds
use Rattle.positions.proofs.plan.Plan.p_from.Reads as p-from
use Rattle.positions.proofs.plan.Plan.p_from.Kinds as p-from-kinds
use Rattle.positions.proofs.plan.Plan.q_from.Reads as q-from
use Rattle.positions.proofs.plan.Plan.q_from.Kinds as q-from-kinds
use Rattle.positions.proofs.plan.Plan.p_position.Reads as p-position
use Rattle.positions.proofs.plan.Plan.p_position.Kinds as p-position-kinds
use Rattle.positions.proofs.plan.Plan.q_position.Reads as q-position
use Rattle.positions.proofs.plan.Plan.q_position.Kinds as q-position-kinds
use Rattle.positions.proofs.plan.Plan.g_position.Reads as g-position
use Rattle.positions.proofs.plan.Plan.g_position.Kinds as g-position-kinds

pub new_fixes : Fixes new-kinds.ps new-kinds.r new.Post
new_fixes κs a x x' s s' p q = same p.0 q.0

pub of_fixes : Fixes of-kinds.ps of-kinds.r of.Post
of_fixes κs a x x' s s' p q = same p.0 q.0

pub pair_fixes : Fixes pair-kinds.ps pair-kinds.r pair.Post
pair_fixes κs a x x' s s' p q = same p.0 q.0

pub p_at_fixes : Fixes p-at-kinds.ps p-at-kinds.r p-at.Post
p_at_fixes κs a x x' s s' = same

pub p_from_fixes : Fixes p-from-kinds.ps p-from-kinds.r p-from.Post
p_from_fixes κs a x x' s s' p q = same p.0 q.0

pub q_from_fixes : Fixes q-from-kinds.ps q-from-kinds.r q-from.Post
q_from_fixes κs a x x' s s' p q = same p.0 q.0

pub p_position_fixes : Fixes p-position-kinds.ps p-position-kinds.r p-position.Post
p_position_fixes κs a x x' s s' p q = same p.0 q.0

pub q_position_fixes : Fixes q-position-kinds.ps q-position-kinds.r q-position.Post
q_position_fixes κs a x x' s s' p q = same p.0 q.0

pub g_position_fixes : Fixes g-position-kinds.ps g-position-kinds.r g-position.Post
g_position_fixes κs a x x' s s' p q = same p.0 q.0
