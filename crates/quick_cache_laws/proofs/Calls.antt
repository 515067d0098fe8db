-- Laws on calls as wholes: on two calls, on queries, on sizes, on shared reads.
pub mod SecondRemovals
pub mod Queries
pub mod Capacities
pub mod MoreTouches
