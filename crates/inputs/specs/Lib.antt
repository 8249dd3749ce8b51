-- What the programs share. The contracts cite
--   Inputs   a buffer that a file was read into
--   Outputs  what may be left unprinted
--   Names    whether two names are the same
pub mod Inputs
pub mod Outputs
pub mod Names
