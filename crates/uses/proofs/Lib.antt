-- The laws of uses, which the proofs above cite:
--   PassLaws          how passes over sets of uses are put together
--   SweepLaws         and at the positions of a plan
--   Premises          each use on a stretch of facts has a premise in it
--   StretchNumbers    stretches of facts by their numbers
--   Bridge            what joins uses at positions with uses of the rules
--   BridgeRows        rules 4, 5 and 7
--   BridgeCalls       rule 6
--   BridgeGuarantees  rules 2 and 3
--   UsesAreYields     all rules: what lacks at positions is what is missing by the rules
--   Unique            whether there is a mark, and whether one of several is there, is determined
pub mod PassLaws
pub mod SweepLaws
pub mod Premises
pub mod StretchNumbers
pub mod Bridge
pub mod BridgeRows
pub mod BridgeCalls
pub mod BridgeGuarantees
pub mod UsesAreYields
pub mod Unique
