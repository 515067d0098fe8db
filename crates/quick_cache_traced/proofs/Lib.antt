mod TraceLemmas
mod StepLemmas
mod PairLemmas
mod KeptLemmas
mod AnswerLemmas
