pub mod Walks
pub mod Tables
pub mod Firsts
pub mod WordMarks
pub mod Chosen
pub mod PlanLaws
mod SmallPlans
pub mod CauseLaws
