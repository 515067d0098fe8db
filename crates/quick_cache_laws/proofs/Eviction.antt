-- What eviction keeps and what it ends in.
pub mod PinnedPairs
pub mod Measure
pub mod OneVictim
pub mod OneOutcome
pub mod Room
