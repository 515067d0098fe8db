-- What the calls of one ring do, with the room of its queue. No public clause cites this module.
use Rattle.std.specs.Prelude.{◌≡◌, ℕ, ◌+◌, ◌-◌, ◌<◌, ◌≤◌, [], ◌∷◌, ◌++◌, length, drop, Bool}
use Rattle.quick_cache_store.specs.Queues.{times, turned, tokens_of, capacity_of, IsQueue, Leaves}
use Rattle.quick_cache_store.specs.declared.rings.ring.Ring.{Ring}
use Rattle.quick_cache_store.specs.Rings.{Ring as Shown}

module _ {A : Type 0} where
  -- what a contract sees of a ring
  abbrev pub shown : Ring A → Shown
  shown ring = record { tokens = tokens_of ring.queue; weight = ring.weight }

  -- there is a place for one more token, and a count for its weight
  pub record HasPlace (ring : Ring A) (weight : ℕ) : Type 0 where
    pub sound : IsQueue ring.queue
    pub room : length (tokens_of ring.queue) < capacity_of ring.queue
    pub light : ring.weight + weight < 340282366920938463463374607431768211456

  -- the token came last
  pub record IsJoined (ring grown : Ring A) (token weight : ℕ) : Type 0 where
    pub sound : IsQueue grown.queue
    pub tokens : tokens_of grown.queue ≡ tokens_of ring.queue ++ token ∷ []
    pub weighed : grown.weight ≡ ring.weight + weight
    pub capacity : capacity_of grown.queue ≡ capacity_of ring.queue

  -- the token stands in the ring, which weighs no less than this
  pub record CanGo (ring : Ring A) (token weight : ℕ) : Type 0 where
    pub sound : IsQueue ring.queue
    pub stands : 0 < times token (tokens_of ring.queue)
    pub weighs : weight ≤ ring.weight

  -- the token left: the rest keeps its order, or begins behind it
  pub record IsGone (ring left : Ring A) (token : ℕ) (restarts : Bool) (weight : ℕ) : Type 0 where
    pub sound : IsQueue left.queue
    pub leaves : Leaves restarts (tokens_of ring.queue) token (tokens_of left.queue)
    pub weighed : left.weight + weight ≡ ring.weight
    pub capacity : capacity_of left.queue ≡ capacity_of ring.queue

  -- the ring weighs no less than this
  pub record CanLose (ring : Ring A) (weight : ℕ) : Type 0 where
    pub sound : IsQueue ring.queue
    pub weighs : weight ≤ ring.weight

  -- the first token left, if there was one
  pub record HasLost (ring left : Ring A) (weight : ℕ) : Type 0 where
    pub sound : IsQueue left.queue
    pub tokens : tokens_of left.queue ≡ drop 1 (tokens_of ring.queue)
    pub weighed : left.weight ≡ ring.weight - weight
    pub capacity : capacity_of left.queue ≡ capacity_of ring.queue

  -- the first came last
  pub record IsTurned (ring after : Ring A) : Type 0 where
    pub sound : IsQueue after.queue
    pub tokens : tokens_of after.queue ≡ turned (tokens_of ring.queue)
    pub weighed : after.weight ≡ ring.weight
    pub capacity : capacity_of after.queue ≡ capacity_of ring.queue

  -- what holds of a ring with room for so many tokens
  pub record IsRing (ring : Ring A) (tokens : ℕ) : Type 0 where
    pub sound : IsQueue ring.queue
    pub room : tokens ≤ capacity_of ring.queue

  -- the same of each of these rings
  pub record AreRings (hot cold ghosts : Ring A) (tokens : ℕ) : Type 0 where
    pub hot_ring : IsRing hot tokens
    pub cold_ring : IsRing cold tokens
    pub ghost_ring : IsRing ghosts tokens
