-- The store's laws, which the proofs above cite:
--   MarkLaws     a mark that was put is there, no other one moves, and how many there are; what model says of marks, said by Has
--   FoundLaws    what a test over many places gathers
--   NextLaws     the next mark from a place on
--   RowLaws      a list of rows, filled from the front
--   Unique       two results that a contract allows are equal
pub mod MarkLaws
pub mod FoundLaws
pub mod NextLaws
pub mod RowLaws
pub mod Unique
