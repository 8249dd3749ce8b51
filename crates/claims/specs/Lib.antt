-- What the statements of this crate cite, beside the definitions of the contracts:
--   Owed      the words of the demands
--   Meanings  what each answer's number means: document 01's table
--   Cases     the cases that document 01 marks with P, and what it says of them
pub mod Owed
pub mod Meanings
pub mod Cases
