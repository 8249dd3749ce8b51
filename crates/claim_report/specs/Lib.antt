-- What the programs on claims print, line by line:
--   ClaimLines  the lines of an answer of claim writing, and the line of an answer of the claim check
pub mod ClaimLines
