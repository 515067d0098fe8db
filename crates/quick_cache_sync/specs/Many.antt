-- Many keys that are looked up at once.
use Rattle.std.specs.Prelude.{◌≡◌, ◌<◌, ℕ, Bool, List, Option, None, Result, Ok, length, slice_index, slice_index_or}
use Rattle.std.specs.declared.hash.Hasher as hasher
use Rattle.std.specs.declared.hash.BuildHasher as builder
use Rattle.quick_cache_model.specs.declared.refusal.Refusal.{Refusal}
use Rattle.quick_cache_model.specs.declared.terms.lifecycle.Lifecycle as lifecycle
use Rattle.quick_cache_model.specs.Hashing.{hash_of}
use Rattle.quick_cache_shard.specs.Shard.{Shard}
use Rattle.quick_cache_locked.specs.Locked.{FromSome, IsKept}
use Rattle.quick_cache_locked.specs.Peeks.{Peeks, ShowsFitting}
use Rattle.quick_cache_sync.specs.Shards.{Division, shard_of_hash}

-- which shard a query has, by what it writes to the hasher
abbrev pub place_of : {Q B H : Type 0} (make : builder.Ghosts B H) (hashes : hasher.Ghosts H)
    → Division B → (writes : Q → List (List ℕ)) → Q → ℕ
place_of make hashes division writes query =
    shard_of_hash division.shards (hash_of make hashes division.builder (writes query))

-- There is a place for each query, the one that the query has, and there are so many places.
pub record HasPlaces {Q : Type 0} (place_of : Q → ℕ) (count : ℕ) (queries : List Q)
    (places : List ℕ) : Type 0 where
  pub one_each : length places ≡ length queries
  pub are : (index : ℕ) (query : Q) → index < length queries
      → query ≡ slice_index_or queries index query
      → (slice_index places index ≡ place_of query) × (place_of query < count)

-- a look-up of the query in this shard, which its lock keeps, answers so, and what it shows fits
pub record IsGot {Q K V We B L S : Type 0} (life : lifecycle.Ghosts L K V S) (equal : K → K → Bool)
    (is_clone : V → V → Type 0) (stands_for : Q → K → Bool) (query : Q)
    (shard : Shard K V We B L) (answer : Result (Option V) Refusal) : Type 0 where
  pub kept : IsKept life equal shard
  pub peeks : Peeks (stands_for query) is_clone shard.state answer
  pub fits : ShowsFitting life.fits (stands_for query) is_clone answer

module _ {Q K V L S : Type 0} (life : lifecycle.Ghosts L K V S) (equal : K → K → Bool)
    (is_clone : V → V → Type 0) (stands_for : Q → K → Bool) (queries : List Q)
    (values : List (Option V)) where
  -- the values of those queries are what the shard shows under them
  abbrev pub ShowsThose : {We B : Type 0} → (those : ℕ → Q → Type 0) → Shard K V We B L → Type 0
  ShowsThose those shard = (index : ℕ) (query : Q) → index < length queries
      → query ≡ slice_index_or queries index query → those index query
      → IsGot life equal is_clone stands_for query shard (Ok (slice_index_or values index None))

  -- There is a value for each query. Those of the queries that have the place of one query come
  -- from some shard at one moment.
  pub record ShowsMany (We B : Type 0) (place_of : Q → ℕ) : Type 0 where
    pub one_each : length values ≡ length queries
    pub of_each : (index : ℕ) (query : Q) → index < length queries
        → query ≡ slice_index_or queries index query
        → FromSome life equal (λ (shard : Shard K V We B L).
        ShowsThose (λ _ other. place_of other ≡ place_of query) shard)

-- the values of the other places are as they were
abbrev pub KeepsOthers : {V : Type 0} → (places : List ℕ) → (place : ℕ)
    → (old new : List (Option V)) → Type 0
KeepsOthers places place old new = (index : ℕ) → (slice_index places index ≡ place → ⊥)
    → slice_index_or new index None ≡ slice_index_or old index None
