pub mod ReferenceLemmas
pub mod LoadLemmas
mod ManyLemmas
