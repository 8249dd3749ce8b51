-- What writing a claim means. The contracts of the functions that ask for space cite
--   Writing  what writing a claim leaves and answers
-- and the private ones besides
--   Stages   what its parts answer
pub mod Writing
pub mod Stages
