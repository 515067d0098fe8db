pub mod AtTokens
mod StackLemmas
pub mod TokenCounts
mod WalkLemmas
