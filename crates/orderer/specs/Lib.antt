pub mod Playing
pub mod Words
