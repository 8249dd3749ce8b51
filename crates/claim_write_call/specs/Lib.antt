-- What claim writing promises (document 01, "Working memory and claims", "What comes back"). The public contracts cite
--   WriteAnswer     what claim writing answers, and the names of its cases
--   Answers         the number, origin and value of each answer
--   ClaimWriting    what claim writing does, on every input
-- the demands besides
--   ReadBack        what was written is read back
-- the program that lends enough for every table
--   AnyTable        what then comes back: a refused table or a written claim
-- and the private contracts
--   WriteStages     what is written of a memory's marks
pub mod WriteAnswer
pub mod Answers
pub mod ClaimWriting
pub mod ReadBack
pub mod AnyTable
pub mod WriteStages
