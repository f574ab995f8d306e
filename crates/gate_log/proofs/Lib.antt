mod AppendRun
mod Appending
pub mod Found
mod Fronts
pub mod Gates
pub mod Going
pub mod Left
mod Parsing
mod Readings
mod Steps
mod Wholes
pub mod Torn
mod Bodies
mod Broken
mod Entries
mod OpenLemmas
mod RestartLemmas
mod HistoryLemmas
mod Overwriting
mod ReplayLemmas
pub mod ImageLemmas
mod LawLemmas
