mod Shuffles
mod Books
mod Values
mod Residents
mod Eviction
mod Told
mod Writes
mod Fills
mod Quiet
mod Steps
mod RunBooks
pub mod ConservationLemmas
mod Examples
mod FreshCalls
mod CallSteps
mod WalkLemmas
mod RunLemmas
mod LoadSteps
mod DrainSteps
pub mod CallerLemmas
