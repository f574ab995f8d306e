pub mod Accepts
pub mod Certificates
pub mod Seals
pub mod Signing
pub mod Statements
