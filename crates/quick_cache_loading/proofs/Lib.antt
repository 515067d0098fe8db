mod BoolLemmas
mod CasesToRows
mod RowLaws
mod RowsToCases
mod ScheduleLaws
mod WaiterLists
mod WhenRowsApply
pub mod WiderShowing
