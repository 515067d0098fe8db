mod LookLemmas
mod PurgeLemmas
mod RenewLemmas
mod TellLemmas
