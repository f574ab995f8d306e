pub mod Counting
pub mod Fold
pub mod Laws
pub mod Opening
pub mod Reading
pub mod Records
