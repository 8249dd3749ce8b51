-- The laws of the two tables:
--   TrainingRule    each number of a constant is the rule's
--   TrainingReads   each file reads as its table
--   Unique          two results that a contract allows are equal
pub mod TrainingRule
pub mod TrainingReads
pub mod Unique
