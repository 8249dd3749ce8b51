-- The laws of reaching:
--   Numbers   the smallest and the last number of a set, and the thread that is picked
--   CellLaws  what a cell fits, and the cell of a thread in a row
--   Reaching  the tests of reach
--   Unique    two results that a contract allows are equal
pub mod Numbers
pub mod CellLaws
pub mod Reaching
pub mod Unique
