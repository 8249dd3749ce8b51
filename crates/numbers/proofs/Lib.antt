-- The laws of numbers and refusals:
--   ReadingLaws  what reading a part of a file gives
--   NumberLaws   a number that is read
--   WritingLaws  how a number is written
--   PutLaws      what is put, and then something else at the place past it
--   Looks        how far reading looks, and so what it gives of a file that is cut
--   RoundTrip    reading and writing a number undo one another
--   FieldLaws    a number that has a range
--   VersionLaws  the version that a file begins with
--   RefusalLaws  the number of a refusal is one of 1 to 6
--   Unique       two results that a contract allows are equal
pub mod ReadingLaws
pub mod NumberLaws
pub mod WritingLaws
pub mod PutLaws
pub mod Looks
pub mod RoundTrip
pub mod FieldLaws
pub mod VersionLaws
pub mod RefusalLaws
pub mod Unique
