-- What a listing prints (document 01, "Reference tables and results"), line by line:
--   Answers  the lines of an answer of the check, and what a refusal says
--   Listed   the facts that are listed, and the line of the next one
pub mod Answers
pub mod Listed
