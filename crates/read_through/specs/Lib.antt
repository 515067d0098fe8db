pub mod Reading
pub mod Answers
pub mod Loads
pub mod Many
pub mod Givens
pub mod Counted
pub mod Renewals
pub mod Serving
