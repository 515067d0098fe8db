pub mod AskedLemmas
mod FillLemmas
mod HottestLemmas
mod ManyLemmas
mod SumLemmas
mod TryLemmas
mod WalkLemmas
