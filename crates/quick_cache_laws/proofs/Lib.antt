mod Admitted
mod Calls
mod CanBeMade
mod Eviction
mod Examples
mod Steps
mod StepParts
mod CallSteps
mod CallWrites
mod Victims
mod ScanParts
mod Fronts
mod Turns
mod Runs
mod Hashes
mod Fresh
pub mod CallerLemmas
mod ScanExamples
