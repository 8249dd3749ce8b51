-- The laws of the lines of facts:
--   FactLaws     the fact at a position by a plan is model's
--   Unique       the answers are determined
--   Examples     the document's own lines
pub mod FactLaws
pub mod Unique
mod Examples
