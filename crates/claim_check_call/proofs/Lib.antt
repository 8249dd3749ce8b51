-- The laws of the claim check:
--   ClaimOutcomes   what is found on the marked claim is what the claim check answers
--   MappedLaws      what a result was before `map_err`, by what it is after it
--   ClaimCases      what a result of the claim check tells
--   Unique          two results that a contract allows are equal
--   Answered        for every input there is an answer that the contract allows
pub mod ClaimOutcomes
pub mod MappedLaws
pub mod ClaimCases
pub mod Unique
pub mod Answered
