pub mod Fitting
pub mod Loops
pub mod MessageLaws
