mod BesideLemmas
mod JoinedLemmas
mod JoinedEdits
mod JoinedWalks
mod WrittenLemmas
mod CopiedLemmas
