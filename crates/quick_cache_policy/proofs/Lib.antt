mod MappedLemmas
mod MarkLemmas
mod SeenLemmas
mod RoundLemmas
mod AdvanceLemmas
mod KeptLemmas
mod ItemLemmas
pub mod PlaceLemmas
pub mod WrittenPlaces
mod HotLemmas
mod HotRoundLemmas
mod HotSeekLemmas
mod HotAdvanceLemmas
mod VictimLemmas
mod SoundLemmas
mod KeyLemmas
pub mod FindLemmas
mod AdmissionLemmas
pub mod AnswerLemmas
mod EnterLemmas
pub mod LookupLemmas
pub mod TokenLemmas
pub mod RetainLemmas
mod ColdSoundLemmas
mod ColdLemmas
mod FirstLemmas
mod WorkLemmas
mod LoopLemmas
mod ColdAdvances
mod OverwriteLemmas
mod BoundLemmas
mod CopyLemmas
mod RewriteLemmas
mod NewLemmas
pub mod ReferenceLemmas
mod MakeLemmas
mod FillLemmas
mod GhostLemmas
mod CapacityLemmas
mod EntryLemmas
mod WrittenLemmas
mod KeptPlaces
mod AskLemmas
mod TestLemmas
mod ThereLemmas
mod TellLemmas
mod StaysLemmas
