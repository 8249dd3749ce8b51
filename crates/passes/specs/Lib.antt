-- What the contracts of private functions cite besides the definitions of uses:
--   Acting  the guarantees that act on a thread's facts
pub mod Acting
