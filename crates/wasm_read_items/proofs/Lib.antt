mod Piles
mod Forms
mod BlockSteps
