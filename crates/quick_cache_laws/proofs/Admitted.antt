-- What a pair that passed its admission check can count on.
pub mod Checks
pub mod UnpinnedWeight
pub mod Tickets
pub mod Weight
pub mod Resident
