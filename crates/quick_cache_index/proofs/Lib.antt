mod Candidates
pub mod CountedTokens
pub mod Distances
mod FreedPlaces
pub mod GroupLanes
mod NearestFreePlace
mod ShownTokens
mod WalkedTokens
