-- The laws of claim writing:
--   PositionsOfFacts  the positions that a finished check leaves marked are those of the facts
--   WritingStages     what is written of these marks is the claim of the facts
--   WrittenLaws       what was written is read as the facts; one to one; accepted where the verdict is safe
--   EnoughForAny      with enough of everything, the table is refused or its claim is written
--   Unique            two results that a contract allows are equal
--   Answered          for every input there is an answer that the contract allows
pub mod PositionsOfFacts
pub mod WritingStages
pub mod WrittenLaws
pub mod EnoughForAny
pub mod Unique
pub mod Answered
