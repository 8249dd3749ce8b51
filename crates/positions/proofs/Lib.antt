-- The laws of positions, which the proofs above cite:
--   Places       positions by a plan are in the memory, and the numbers on the way to them are small
--   PlanIsModel  positions by a table's plan are model's positions, and its w is W
--   Unique       two results that a contract allows are equal
pub mod Places
pub mod PlanIsModel
pub mod Unique
