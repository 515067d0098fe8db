-- The hash of a key, and the queries by which a key is found.
use Rattle.std.specs.Prelude.{◌≡◌, ℕ, Bool, true, List, fold}
use Rattle.std.specs.declared.hash.Hasher as hasher
use Rattle.std.specs.declared.hash.BuildHasher as builder

-- the hash of what a key writes to a hasher, under a builder
abbrev pub hash_of : {B H : Type 0} → builder.Ghosts B H → hasher.Ghosts H → B → List (List ℕ) → ℕ
hash_of make hasher b writes = hasher.finish (fold hasher.write (make.build_hasher b) writes)

-- the query stands for each key that it may give
abbrev pub StandsForGiven : {K : Type 0} → (gives : K → Type 0) → (stands_for : K → Bool) → Type 0
StandsForGiven {K} gives stands_for = (key : K) → gives key → stands_for key ≡ true
