-- The laws of the check, from the bottom up:
--   LentRows    the reader's memories are the rows that the engine and the verdict ask for
--   ReadTable   a table that was read: what the check's own functions are lent
--   Outcomes    the engine's and the verdict's answers are the check's
--   Unique      two results that a contract allows are equal
--   Exactly     when a check finishes, by the number of facts and the budget
--   Answered    for every input there is an answer that the contract allows
pub mod LentRows
pub mod ReadTable
pub mod Outcomes
pub mod Unique
pub mod Exactly
pub mod Answered
