-- The laws of what is found, from the bottom up:
--   StartMarks   the start facts, by the marks where they stand
--   FoundLaws    from the answers of the three steps to what is found
--   HeldFacts    what is found on a memory is found of the facts that it holds
--   Unique       two results that a contract allows are equal
pub mod StartMarks
pub mod FoundLaws
pub mod HeldFacts
pub mod Unique
