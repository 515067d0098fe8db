-- Worked examples of the definitions, on small caches of numbers. Each says what one call does, in
-- the words of specs/.
pub mod Caches
pub mod SmallCaches
pub mod Victims
pub mod Pinned
pub mod Weights
pub mod Weightless
pub mod Overwrites
pub mod LoadingKeys
pub mod Capacities
pub mod Reads
pub mod EntryCalls
pub mod Orders
pub mod Steps
pub mod Telling
pub mod Determined
