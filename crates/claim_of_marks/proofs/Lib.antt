-- The laws of writing a claim:
--   DistanceLaws  the distances that are still to come, and their bytes
--   WritingLoops  the loop that writes, and the whole claim
--   Unique        two results that a contract allows are equal
pub mod DistanceLaws
pub mod WritingLoops
pub mod Unique
