pub mod EntryLemmas
pub mod LoadLemmas
mod OverLemmas
