pub mod Runs
pub mod Turns
pub mod Texts
pub mod Faults
pub mod Statuses
pub mod Worlds
pub mod Choices
