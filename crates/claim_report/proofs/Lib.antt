-- The laws of the lines on claims:
--   Unique  the answers are determined
pub mod Unique
