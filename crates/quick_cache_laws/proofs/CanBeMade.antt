-- Each call can be made in every state.
pub mod Victims
pub mod Evictions
pub mod Checks
pub mod Writes
pub mod Lookups
pub mod EntryCalls
pub mod Finding
