-- What the contracts here and that of verdict's search cite, all of functions that ask for a plan, a memory or rows:
--   Reaching  the local stores that threads reach, and the cells that a row asks of them
pub mod Reaching
