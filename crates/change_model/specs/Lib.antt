pub mod Answers
pub mod Changing
pub mod Choices
pub mod Dues
pub mod Laws
pub mod Past
pub mod Valid
