-- The text of facts (document 01, "Reference tables and results"). The contracts of the calls that print cite
--   FactLines  the lines of facts
-- and those that ask for a position below a plan's w besides
--   Facts      the fact at a position, by the plan of a table
pub mod FactLines
pub mod Facts
