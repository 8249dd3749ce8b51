-- The model of document 01, over the tables of crate files: what the contracts above mean, with no program in it.
--   Taken      which row is taken where, for runs and rules alike
--   Rules      facts, one use of a rule, closed sets of facts, the least relations
--   Runs       states with stacks, moves, runs
--   Errors     erroneous states with their row numbers; reached, allowed, safe
--   Verdict    the order of witnesses, the smallest witness, the verdict
--   Positions  the position of a fact, the fact at a position
--   Memory     what a memory holds, the number of facts
--   Claims     what is found of a claim
pub mod Taken
pub mod Rules
pub mod Runs
pub mod Errors
pub mod Verdict
pub mod Positions
pub mod Memory
pub mod Claims
