-- The store's definitions. The contracts of the calls cite
--   Clearing  a memory that is cleared
-- and those of the functions that ask for places in a memory or for rows besides
--   Marking   marks in the lent memory
--   Reading   the lent rows, as bytes and as structs, and that they are a table's
pub mod Clearing
pub mod Marking
pub mod Reading
