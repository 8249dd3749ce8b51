-- What is found of the facts that a memory marks (document 01, "What comes back", the answers 9, 10 and 11).
--   Found   what each function answers; all ask for a table's plan or rows
pub mod Found
