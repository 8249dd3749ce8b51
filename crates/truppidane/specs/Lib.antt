-- What the exported functions promise.
--   Told    each answer as eleven numbers
--   Calls   what the exported functions do, on every input
pub mod Told
pub mod Calls
