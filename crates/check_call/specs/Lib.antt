-- What the check promises (document 01, "What comes back").
--   Answer     what the check answers, and the names of its cases
--   Answers    the number, origin and value of each answer
--   Checking   what the check does, on every input
--   Lent       what functions over a table that was read are lent; the contract of the check does not cite it
pub mod Answer
pub mod Answers
pub mod Checking
pub mod Lent
