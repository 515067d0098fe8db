-- Caches that go by a list of the keys that they hold, and how many keys of a trace they have.
use Rattle.std.specs.Prelude.{ℕ, ◌+◌, ◌-◌, Bool, true, false, if◌then◌else◌, List, [], ◌∷◌, take, nat_eq}

-- whether the key is in the list
abbrev pub holds : ℕ → List ℕ → Bool
holds key [] = false
holds key (first ∷ others) = if nat_eq key first then true else holds key others

-- the list without the first such key
abbrev pub without : ℕ → List ℕ → List ℕ
without key [] = []
without key (first ∷ others) = if nat_eq key first then others else first ∷ without key others

module _ (capacity : ℕ) where
  -- What an LRU cache holds once a key was asked for: the key comes first. Where it is new, and
  -- there is no room, the last one goes, which was used longest ago.
  abbrev pub by_use : List ℕ → ℕ → List ℕ
  by_use held key = key ∷ (if holds key held then without key held else take (capacity - 1) held)

  -- What a FIFO cache holds then: a new key comes first. Where there is no room, the last one goes,
  -- which came first of all.
  abbrev pub by_age : List ℕ → ℕ → List ℕ
  by_age held key = if holds key held then held else key ∷ take (capacity - 1) held

-- how many keys of a trace are held when they are asked for
abbrev pub hits_by : (List ℕ → ℕ → List ℕ) → List ℕ → List ℕ → ℕ
hits_by next held [] = 0
hits_by next held (key ∷ keys) =
    (if holds key held then 1 else 0) + hits_by next (next held key) keys
