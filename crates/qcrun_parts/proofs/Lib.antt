mod CommandLemmas
mod LineLemmas
pub mod EventLemmas
mod StillLemmas
mod LoadLemmas
mod PrintLemmas
mod RunLemmas
mod SessionLemmas
