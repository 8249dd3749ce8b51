-- The crate's definitions. What the contracts of the calls cite:
--   Judged     that an answer is the verdict on a set of facts
-- and the contract of the search besides:
--   ErrorRows  that the lent bytes are a table's error rows, what one row allows, and the verdict on the facts that a memory marks
pub mod Judged
pub mod ErrorRows
