-- The laws of lists of rows, from the bottom up:
--   OrderLaws     rows compared number by number
--   ListLaws      the next row, a list of rows, and the loop that finds one
--   RowKeeping    a cell and a row that were found are kept
--   KeepLaws      the loop that keeps one that was found
--   ListFits      a list that was read: its rows fit their columns and ascend
--   ListLooks     how far reading a list looks
--   ListStops     a list is refused where its first fault is
--   Unique        two results that a contract allows are equal
pub mod OrderLaws
pub mod ListLaws
pub mod RowKeeping
pub mod KeepLaws
pub mod ListFits
pub mod ListLooks
pub mod ListStops
pub mod Unique
