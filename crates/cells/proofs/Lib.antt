-- The laws of a row, from the bottom up:
--   RowMemory     five cells of a row; a run of stores over a whole memory
--   RowLaws       cells and rows, and the loop that reads a row
--   RowFits       a row that was read fits its columns
--   RowLooks      how far reading a row looks
--   RowStops      a row is refused where its first fault is
--   Unique        two results that a contract allows are equal
pub mod RowMemory
pub mod RowLaws
pub mod RowFits
pub mod RowLooks
pub mod RowStops
pub mod Unique
