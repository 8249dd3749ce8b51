-- What a table file means (document 01, "The table, in file order"). Crate model needs Table alone; those above it cite the others too.
--   Table      a table as a record, its limits, when it is sound, how many facts it may have, W
--   Header     reading the header
--   File       reading the whole file, and what the reader answers and stores
--   Layout     the numbers of a table in file order
-- and the private contracts besides
--   Stages     the parts of a table file, found and kept
pub mod Table
pub mod Header
pub mod File
pub mod Layout
pub mod Stages
