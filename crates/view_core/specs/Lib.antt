pub mod Places
pub mod Held
pub mod Fits
pub mod Resuming
pub mod Calls
