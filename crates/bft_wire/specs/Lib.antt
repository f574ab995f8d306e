pub mod Laws
pub mod Lengths
pub mod Messages
pub mod Placing
pub mod Reading
pub mod Spelling
