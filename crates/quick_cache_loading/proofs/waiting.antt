pub mod JoinLemmas
mod SlotLemmas
mod TaskLemmas
mod WithdrawalLemmas
