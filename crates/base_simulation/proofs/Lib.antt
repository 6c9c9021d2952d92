pub mod Prefixes
pub mod Lockstep
pub mod Stuttering
pub mod StutteringSteps
pub mod StepwiseSimulation
mod Examples
