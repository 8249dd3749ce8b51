-- The engine's laws, from what is given up to what a run comes to:
--   GivenLaws         what is given of a sound table is in range
--   EmptyStretches    a stretch of facts with no mark gives nothing
--   Covering          how work under way goes on
--   TurnLaws          what follows on a turn
--   WorkLaws          a turn of the work
--   Derivable         a memory that marks derivable facts alone, and how many
--   StartLaws         the memory with the start facts
--   RunLaws           the ends of a run
--   Determined        the answers are determined
pub mod GivenLaws
pub mod EmptyStretches
pub mod Covering
pub mod TurnLaws
pub mod WorkLaws
pub mod Derivable
pub mod StartLaws
pub mod RunLaws
pub mod Determined
