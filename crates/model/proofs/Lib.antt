-- The theorems about the model, by what they say:
--   AcceptedMeansSafe  an accepted claim means that no run fails; a safe table's relations are accepted; for another table no claim is
--   RunsAreHeld        004's Lemma 2: runs are held by every closed set with the start facts; where one is safe, no run meets an error
--   Least              the least relations are such a set and lie in every one; so what they allow, each such set allows
--   Positions          facts in range and positions below W are one to one
--   InRange            derivable facts are in range
--   Memory             when a memory holds the least relations, that its sum is their number, and when they are over a budget
--   FactCounts         every sound table has one number of facts, at most W, and a memory that holds the least relations
--   Unique             the memory, the count, the smallest numbers, the verdict and the finding are determined
--   OwnMoves           a thread's own guarantee does not act on it: an example
--   Claims             what a claim check finds of a set that is decided, and of marks
--   Decide             the least relations, the verdict and the finding decided by evaluation, for lists of facts; that there always is one
-- Lists, Counting, DecidedSets, Order and Monotone are what these share.
pub mod AcceptedMeansSafe
pub mod RunsAreHeld
pub mod Least
pub mod Positions
pub mod InRange
pub mod Memory
pub mod FactCounts
pub mod Unique
pub mod OwnMoves
pub mod Claims
pub mod Decide
pub mod Lists
pub mod Counting
pub mod DecidedSets
pub mod Order
pub mod Monotone
