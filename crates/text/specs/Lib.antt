-- The text of the listing (document 01, "Reference tables and results"), and what a refusal says. The contracts of the lines cite
--   Listing  the lines of the listing but for those of facts, and those of the programs on claims
--   Reasons  what a refusal says in words, by its number
pub mod Listing
pub mod Reasons
