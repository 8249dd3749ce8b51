-- The laws of text as bytes:
--   DecimalLaws  a number in decimal by its two equations, and how many digits it has
--   WritingLaws  a text that is written, and then another, are their join that is written
--   LineLaws     the parts of a line are the line
--   Unique       the answer and every byte of the buffer are determined
pub mod DecimalLaws
pub mod WritingLaws
pub mod LineLaws
pub mod Unique
