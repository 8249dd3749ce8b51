-- What we owe, over the contracts of the three calls:
--   Demands    the three demands: open it first
--   Numbers    the demands by the numbers that callers get
--   OutOfRange a number outside its column's range is refused at its place
--   Changes    which refusals change what
--   Accepted   what it means that a claim is accepted
--   OwnClaims  what the check calls safe, claim writing writes, and the claim check accepts
--   Cuts       a file that is cut answers as the whole would
--   Cases      document 01's cases marked P, as one table and one statement
--   Simple     document 01's training table and its mutex: their facts and verdicts
pub mod Demands
pub mod Numbers
pub mod OutOfRange
pub mod Changes
pub mod Accepted
pub mod OwnClaims
pub mod Cuts
pub mod Cases
pub mod Simple
