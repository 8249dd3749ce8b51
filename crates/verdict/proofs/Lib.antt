-- The laws of the crate. Callers cite Answers and Answered; the others are what the functions' proofs cite:
--   Lists     the order of lists, and what stands at a number of a list
--   Smallest  each thread's smallest store for its cell makes the smallest list
--   LentIsTable   what is said of the lent bytes is said of the table
--   OneRow    what a row allows at a shared store
--   Progress  how the search goes on from row to row, from store to store, from thread to thread
--   Answers   the only answer, the verdict on the facts that a memory holds, and the smallest row
--   Answered  there is an answer for every sound table
pub mod Lists
pub mod Smallest
pub mod LentIsTable
pub mod OneRow
pub mod Progress
pub mod Answers
pub mod Answered
