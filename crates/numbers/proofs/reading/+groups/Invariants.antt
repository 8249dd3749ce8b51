-- `numbers::reading::groups` meets its contract: each way out is a law of `groups_at`. The measure is `left`.
use Rattle.numbers.proofs.reading.+groups.Given as goal

-- proposed from what the function passes where it calls itself
abbrev pub decreases-groups : goal.decreases-groups
decreases-groups l = l.left
