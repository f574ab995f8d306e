mod Folding
pub mod OneMore
pub mod Opens
pub mod RecordLaws
mod Sizes
