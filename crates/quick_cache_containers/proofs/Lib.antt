mod AllRings
pub mod AtTokens
mod CopiedNodes
mod CountedSlots
mod EditsByToken
mod FreeTokens
mod IteratedItems
mod NodeFields
mod OneRing
mod PartedRings
mod RingEditsOfSlots
mod SlabViews
mod SlotRings
pub mod TokenCounts
mod CountedPlaces
mod FreedPlaces
mod GroupCounts
mod HousedPairs
mod FreePlaces
mod PairOrder
mod PairedLists
mod SearchAlongTokens
mod ShownPairs
mod TurnedLanes
mod WalkedTokens
