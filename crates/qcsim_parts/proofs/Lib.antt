mod ListLemmas
mod CountLemmas
