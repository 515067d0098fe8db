pub mod CallerLemmas
mod CountLemmas
mod KeptLemmas
mod LoadLemmas
mod PastLemmas
mod PrefixLemmas
mod SeatLemmas
