-- The laws of what the programs share:
--   FilledLaws  bytes that were read are within the buffer
--   Unique      whether two names are the same is determined, and memory of zeros
pub mod FilledLaws
pub mod Unique
