-- The two tables of Simple in document 01, by their rule:
--   Training  the training table and the table with the true/false mutex
pub mod Training
