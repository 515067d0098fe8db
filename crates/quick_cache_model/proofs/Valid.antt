-- Each call leads from a valid state to a valid one.
pub mod States
pub mod Edits
pub mod Places
pub mod Tickets
pub mod Writes
pub mod Placeholders
pub mod Lookups
pub mod Orders
