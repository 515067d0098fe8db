pub mod Fills
pub mod Answers
pub mod Futures
pub mod Loaders
pub mod Acts
pub mod Entries
pub mod EntryFutures
