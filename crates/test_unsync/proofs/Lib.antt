mod ShownLemmas
mod SpentLemmas
