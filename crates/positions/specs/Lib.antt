-- The definition of positions, for the contracts of the functions that ask for a plan:
--   Plans  the sizes of a table worked out once, and the positions by them
pub mod Plans
