pub mod Looks
pub mod Many
pub mod Purges
pub mod Renewals
pub mod Loads
