pub mod EndsAndCounts
pub mod KnownQuietSteps
pub mod Budgets
pub mod QuietInstantiations
pub mod UnrelatedPlaces
pub mod QuietCalls
pub mod GlobalValues
pub mod ImportedFunctions
