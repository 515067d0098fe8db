pub mod Moments
pub mod Lives
pub mod Lent
pub mod Looks
pub mod SharedLooks
