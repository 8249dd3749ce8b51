-- What lists of rows mean (document 01, "The table, in file order"). The contracts of `files` and of the calls cite
--   Order        rows compared number by number
--   Lists        reading lists of rows
-- those of `find_at` and `find_list` besides
--   ListAnswers  what finding a list answers
-- those of `keep_at` and `keep_list`, which ask for a list that was found and for room, besides
--   Keeping      what a list's memory holds
-- and the private ones besides
--   Stages       the row before
pub mod Order
pub mod Lists
pub mod ListAnswers
pub mod Keeping
pub mod Stages
