-- The laws of rule 4's walk:
--   ListLaws     the first rows of a list that was read from bytes
pub mod ListLaws
