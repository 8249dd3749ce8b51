-- The laws of the exported functions:
--   FirstNumber  the first of the numbers that tell an answer is its number
--   Exported     the demands, of the exported calls and by their numbers
--   Unique       two results that a contract allows are equal
pub mod FirstNumber
pub mod Exported
pub mod Unique
