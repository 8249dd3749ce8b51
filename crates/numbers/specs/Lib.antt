-- What numbers, their refusals and their bytes mean (document 01, "Numbers" and "What comes back"). The public contracts cite
--   Refusals   the number and the value of each refusal of a file
--   Reading    what reading a part of a file gives; a number, a number in a range, the version
--   Writing    the bytes of a number, and what writing one leaves in a slice
-- and the private functions of the crates that write cite
--   Putting    what putting bytes at a place leaves in a buffer
pub mod Refusals
pub mod Reading
pub mod Writing
pub mod Putting
