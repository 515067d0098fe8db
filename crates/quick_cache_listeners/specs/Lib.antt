pub mod Bytes
pub mod Kept
pub mod Causes
pub mod Requests
pub mod CauseLaws
pub mod Tallies
pub mod Taken
