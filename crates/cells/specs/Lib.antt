-- What a row of numbers means (document 01, "The table, in file order"). The public contracts cite
--   Columns  the columns of each kind of row, with their ranges
--   Rows     reading cells and rows
--   Passing  where a reader stands after a row
-- and a private one besides
--   Stages   the columns below the sizes
pub mod Columns
pub mod Rows
pub mod Passing
pub mod Stages
