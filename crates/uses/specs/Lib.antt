-- What the contracts here, in passes, steps and engine cite, all of functions that have `requires`:
--   Uses      sets of uses of rules at positions
--   Passing   what a pass over such a set does
--   Sweeping  and what such a pass does at the positions of a plan
--   Ranges    rows in range
--   RuleUses  the uses of each rule
--   AllUses   the uses of all rules
pub mod Uses
pub mod Passing
pub mod Sweeping
pub mod Ranges
pub mod RuleUses
pub mod AllUses
