-- What a claim file means (document 01, "Working memory and claims"). The contracts of the calls cite
--   ClaimFile     the positions that a file claims, or the refusal; the bytes of a claim
-- those of the functions that ask for the W of a table, a claim or a memory besides
--   ClaimAnswers  what reading a claim answers
--   Marks         the positions that are marked in a memory, and a memory that marks given positions
-- and private ones, here and in claim_of_marks, besides
--   Stages        the positions of a claim and a walk over them; a memory while it is marked; the bytes of a part of a claim
pub mod ClaimFile
pub mod ClaimAnswers
pub mod Marks
pub mod Stages
