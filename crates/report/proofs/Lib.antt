-- The laws of a listing:
--   ListedLaws  what the next mark is, is listed next
--   FactsOfTable     of a table that was read: the lines are its facts', and after a finished check those of the facts that hold, none left out
--   Unique      the answers are determined
pub mod ListedLaws
pub mod FactsOfTable
pub mod Unique
