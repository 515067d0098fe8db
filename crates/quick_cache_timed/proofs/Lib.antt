mod LifeLemmas
