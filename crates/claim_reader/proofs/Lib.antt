-- The laws of claim files, from the bottom up:
--   PositionLaws      the count and the positions of a claim that is read
--   AscendingPositions  positions that were read are strictly ascending
--   ReadingLoops      the loops over its positions
--   ClaimLaws         a claim that is read, and what the code's answer tells of it
--   ClaimMarks        a memory in which the positions of a claim are marked
--   MarkedPositions   the positions that are marked in a memory, one after the other
--   ClaimBytes        how the bytes of a claim are put together
--   ClaimLength       how long a claim may be
--   CutClaim          a file that is cut past all that a claim may take is read as the whole
--   RoundTrip         reading and writing a claim undo one another
--   PositionsOfMarks  the positions that are marked are exactly the marked ones
--   ClaimIsModel      a memory in which a claim is marked holds the claimed facts
--   Computed          the definition of a claim's file, ready to compute
--   Unique            two results that a contract allows are equal
pub mod PositionLaws
pub mod AscendingPositions
pub mod ReadingLoops
pub mod ClaimLaws
pub mod ClaimMarks
pub mod MarkedPositions
pub mod ClaimBytes
pub mod ClaimLength
pub mod CutClaim
pub mod RoundTrip
pub mod PositionsOfMarks
pub mod ClaimIsModel
pub mod Computed
pub mod Unique
