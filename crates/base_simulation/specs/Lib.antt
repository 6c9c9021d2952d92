pub mod Machines
pub mod Simulations
