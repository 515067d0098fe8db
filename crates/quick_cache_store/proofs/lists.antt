mod GatherLemmas
mod SlabFrames
mod SoundLemmas
mod StandLemmas
mod FindLemmas
mod ViewLemmas
mod RemoveLemmas
mod TakeLemmas
mod TurnLemmas
mod ItemLemmas
mod ChangeLemmas
mod ApartLemmas
mod AwaitedLemmas
mod CountLemmas
mod PutLemmas
mod LeaveLemmas
mod MoveLemmas
mod FirstLemmas
mod NextLemmas
mod RewriteLemmas
pub mod CallerLemmas
pub mod OneEntryLemmas
mod WalkLemmas
pub mod StandingLemmas
mod CopyLemmas
mod ResidentLemmas
mod PlaceholderLemmas
