-- What a reader does (document 01, "Numbers"), and how a part of a file and the file end ("What comes back", 6). The public contracts cite
--   Places     the place past a number, and how many bytes are left
--   Readers    a reader that moves on past whole numbers
--   Ranges     a number with a range
--   Ends       where a part of a file ends, and the end of the file
-- and a private one besides
--   Ended      the end of a file by what is left of it
pub mod Places
pub mod Readers
pub mod Ranges
pub mod Ends
pub mod Ended
