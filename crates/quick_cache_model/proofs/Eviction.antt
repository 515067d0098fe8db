-- What eviction keeps of keys and of places.
pub mod Keys
pub mod InPlace
