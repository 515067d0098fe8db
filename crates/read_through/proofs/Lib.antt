mod AnswerLemmas
mod LookLemmas
mod ManyLemmas
mod RenewLemmas
