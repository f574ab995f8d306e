pub mod Resting
pub mod Fits
pub mod Safe
pub mod AllowedSteps
pub mod Within
pub mod Telling
pub mod Certified
pub mod TooMany
