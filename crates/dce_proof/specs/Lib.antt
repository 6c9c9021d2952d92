pub mod ReachedMarks
pub mod SweptModuleEquivalence
pub mod SmallerViews
pub mod UnreachableFunction
