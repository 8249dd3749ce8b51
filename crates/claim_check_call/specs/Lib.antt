-- What the claim check promises (document 01, "What comes back"). The public contracts cite
--   ClaimAnswer     what the claim check answers, and the names of its cases
--   Answers         the number, origin and value of each answer
--   ClaimChecking   what the claim check does, on every input
-- and the private ones besides
--   ClaimLent       what its own functions are lent
pub mod ClaimAnswer
pub mod Answers
pub mod ClaimChecking
pub mod ClaimLent
