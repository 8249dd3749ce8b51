-- The laws of table files, from the bottom up:
--   RowKinds       rows as records and as cells
--   TableLaws      what is known of a table that was read: it is sound, and where each cell stands
--   TableStops     a file is refused where its first fault is
--   CutTable       a file that is cut past all that a table may take is read as the whole
--   TableStages    the parts of the file are the table
--   WLaws       W, at most 2,360,320
--   Computed       the definition of a table's file, ready to compute
--   Unique         two results that a contract allows are equal
pub mod RowKinds
pub mod TableLaws
pub mod TableStops
pub mod CutTable
pub mod TableStages
pub mod WLaws
pub mod Computed
pub mod Unique
