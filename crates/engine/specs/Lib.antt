-- What the public contracts cite, which a reader must believe:
--   Given       what a run is given, and that it is a table's
--   InRange     what is given is in range (of these, `start_at` alone asks for it)
--   StartFacts  where the start facts stand
--   Answers     what a run and the smallest missing position answer
-- What only private functions cite:
--   Working     what the work comes to
--   Turns       turns of the stretches of P facts
--   Starting    the memory with the start facts
pub mod Given
pub mod InRange
pub mod StartFacts
pub mod Answers
pub mod Working
pub mod Turns
pub mod Starting
