pub mod Index
pub mod IndexGroups
