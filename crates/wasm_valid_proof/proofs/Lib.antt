mod BodyRanges
mod ItemRanges
mod ModuleNumbers
mod GreatestNumber
