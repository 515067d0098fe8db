-- The loop that counts hits: the hits so far, and those of the keys that are left, are those of all.
use Rattle.std.proofs.Common.{◌≡◌, ℕ, ◌+◌, ◌≤◌, true, false, List, [], ◌∷◌, length, refl, ap, ◌∙◌, arith}
use Rattle.std.specs.Map.{keys_of}
use Rattle.lru.specs.LruCache.{LruCache}
use Rattle.qcsim_parts.specs.Policies.{holds, hits_by}

module _ (next : ℕ → List ℕ → ℕ → List ℕ) (capacity : ℕ) (keys : List ℕ) where
  abbrev pub IsCounted : LruCache ℕ (Unit {0}) → ℕ → List ℕ → Type 0
  IsCounted cache hits rest =
      (cache.cap ≡ capacity) × (hits + length rest ≤ length keys)
      × (hits + hits_by (next capacity) (keys_of cache.entries) rest
      ≡ hits_by (next capacity) [] keys)

  module _ (cache new : LruCache ℕ (Unit {0})) (hits key : ℕ) (rest tail : List ℕ) where
    -- one key was asked for that was held
    pub hit : rest ≡ key ∷ tail → holds key (keys_of cache.entries) ≡ true → new.cap ≡ cache.cap
        → keys_of new.entries ≡ next capacity (keys_of cache.entries) key
        → IsCounted cache hits rest → IsCounted new (hits + 1) tail
    hit parts there same_cap after counted = (
      same_cap ∙ counted.0,
      omega (arith, counted.1, ap length parts),
      rw after (omega (arith, counted.2, was)),
    )
      where
        was : hits_by (next capacity) (keys_of cache.entries) rest
            ≡ 1 + hits_by (next capacity) (next capacity (keys_of cache.entries) key) tail
        was = rw (parts, there) refl

    -- one was asked for that was not
    pub miss : rest ≡ key ∷ tail → holds key (keys_of cache.entries) ≡ false → new.cap ≡ cache.cap
        → keys_of new.entries ≡ next capacity (keys_of cache.entries) key
        → IsCounted cache hits rest → IsCounted new hits tail
    miss parts absent same_cap after counted = (
      same_cap ∙ counted.0,
      omega (arith, counted.1, ap length parts),
      rw after (omega (arith, counted.2, was)),
    )
      where
        was : hits_by (next capacity) (keys_of cache.entries) rest
            ≡ hits_by (next capacity) (next capacity (keys_of cache.entries) key) tail
        was = rw (parts, absent) (omega arith)
