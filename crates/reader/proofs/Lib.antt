-- The laws of readers:
--   RangeLaws      a number that is asked for its range
--   EndLaws        the end of a file
--   Unique         two results that a contract allows are equal
pub mod RangeLaws
pub mod EndLaws
pub mod Unique
