-- The laws of the lines:
--   LineLaws     the text of a line is what was written, and past it nothing changes; the numbers of a witness
--   Unique       the answers are determined
--   Examples     the document's own lines, and what two of them are refused for
pub mod LineLaws
pub mod Unique
mod Examples
