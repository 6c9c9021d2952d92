pub mod SuitableStates
pub mod GlobalsAndSegments
pub mod TypedValues
pub mod ConstructorLists
pub mod Ranges
pub mod EvaluatedWorlds
pub mod EquivalenceLaws
pub mod QuietRunAddresses
