pub mod Joinable
pub mod ImportEnds
pub mod MapEntries
pub mod StartTypes
pub mod SharedAddresses
pub mod AgreeingInstances
pub mod MergeEquivalence
pub mod SequentialEquivalence
