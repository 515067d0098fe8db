-- The keys of the kit's `LruCache`, as a list of keys.
use Rattle.std.proofs.Common.{◌≡◌, ℕ, ◌-◌, Bool, true, false, List, [], ◌∷◌, take, Option, Some, None, is_some, nat_eq, zero, suc, refl}
use Rattle.std.proofs.Common.{sym, ap, ◌∙◌}
use Rattle.std.proofs.lemmas.Bool.{eqb-true}
use Rattle.std.specs.Map.{keys_of, lookup, lookup_entry, remove_entry}
use Rattle.lru.specs.LruCache.{LruCache, put_entries}
use Rattle.qcsim_parts.specs.Policies.{holds, without, by_use, by_age}

-- a key is held where a look-up finds it
pub holds-keys_of : (key : ℕ) (entries : List (ℕ × Unit {0}))
    → is_some (lookup (nat_eq key) entries) ≡ holds key (keys_of entries)
holds-keys_of key [] = refl
holds-keys_of key (first ∷ others) =
    go (holds-keys_of key others) (nat_eq key first.0) refl
  where
    go : is_some (lookup (nat_eq key) others) ≡ holds key (keys_of others) → (b : Bool)
        → nat_eq key first.0 ≡ b
        → is_some (lookup (nat_eq key) (first ∷ others)) ≡ holds key (keys_of (first ∷ others))
    go behind true is = rw is refl
    go behind false is = rw is behind

-- so where it finds the entry
holds-entry : (key : ℕ) (entries : List (ℕ × Unit {0}))
    → is_some (lookup_entry (nat_eq key) entries) ≡ holds key (keys_of entries)
holds-entry key [] = refl
holds-entry key (first ∷ others) = go (holds-entry key others) (nat_eq key first.0) refl
  where
    go : is_some (lookup_entry (nat_eq key) others) ≡ holds key (keys_of others) → (b : Bool)
        → nat_eq key first.0 ≡ b
        → is_some (lookup_entry (nat_eq key) (first ∷ others))
        ≡ holds key (keys_of (first ∷ others))
    go behind true is = rw is refl
    go behind false is = rw is behind

-- the entry that is found has the key
entry-key : (key : ℕ) (entries : List (ℕ × Unit {0})) (entry : ℕ × Unit {0})
    → lookup_entry (nat_eq key) entries ≡ Some entry → entry.0 ≡ key
entry-key key [] entry found = cc
entry-key key (first ∷ others) entry found =
    go (λ there. entry-key key others entry there) (nat_eq key first.0) refl
  where
    go : (lookup_entry (nat_eq key) others ≡ Some entry → entry.0 ≡ key) → (b : Bool)
        → nat_eq key first.0 ≡ b → entry.0 ≡ key
    go behind true is = let there = rw is at found in let same : first ≡ entry = cc in
        ap (λ (e : ℕ × Unit {0}). e.0) (sym same) ∙ sym (eqb-true key first.0 is)
    go behind false is = behind (rw is at found)

without-keys_of : (key : ℕ) (entries : List (ℕ × Unit {0}))
    → keys_of (remove_entry (nat_eq key) entries) ≡ without key (keys_of entries)
without-keys_of key [] = refl
without-keys_of key (first ∷ others) =
    go (without-keys_of key others) (nat_eq key first.0) refl
  where
    go : keys_of (remove_entry (nat_eq key) others) ≡ without key (keys_of others) → (b : Bool)
        → nat_eq key first.0 ≡ b
        → keys_of (remove_entry (nat_eq key) (first ∷ others))
        ≡ without key (keys_of (first ∷ others))
    go behind true is = rw is refl
    go behind false is = rw is (ap (λ keys. first.0 ∷ keys) behind)

take-keys_of : (n : ℕ) (entries : List (ℕ × Unit {0}))
    → keys_of (take n entries) ≡ take n (keys_of entries)
take-keys_of zero entries = refl
take-keys_of (suc n) [] = refl
take-keys_of (suc n) (first ∷ others) = ap (λ keys. first.0 ∷ keys) (take-keys_of n others)

-- A key that is put into a cache comes first.
pub by_use-put_entries : (cache : LruCache ℕ (Unit {0})) (key : ℕ)
    → keys_of (put_entries nat_eq cache key tt) ≡ by_use cache.cap (keys_of cache.entries) key
by_use-put_entries cache key = go (lookup_entry (nat_eq key) cache.entries) refl
  where
    go : (o : Option (ℕ × Unit {0})) → lookup_entry (nat_eq key) cache.entries ≡ o
        → keys_of (put_entries nat_eq cache key tt) ≡ by_use cache.cap (keys_of cache.entries) key
    go None is =
        let absent : holds key (keys_of cache.entries) ≡ false =
        sym (holds-entry key cache.entries) ∙ ap is_some is in
        rw (is, absent) (ap (λ keys. key ∷ keys) (take-keys_of (cache.cap - 1) cache.entries))
    go (Some entry) is =
        let there : holds key (keys_of cache.entries) ≡ true =
        sym (holds-entry key cache.entries) ∙ ap is_some is in
        rw (is, there, entry-key key cache.entries entry is)
        (ap (λ keys. key ∷ keys) (without-keys_of key cache.entries))

-- a new key that is put into a cache comes first, and where no key is put none moves
pub by_age-put_entries : (cache : LruCache ℕ (Unit {0})) (key : ℕ)
    → holds key (keys_of cache.entries) ≡ false
    → keys_of (put_entries nat_eq cache key tt) ≡ by_age cache.cap (keys_of cache.entries) key
by_age-put_entries cache key absent =
    by_use-put_entries cache key ∙ (rw absent refl)

pub by_age-held : (capacity : ℕ) (held : List ℕ) (key : ℕ) → holds key held ≡ true
    → held ≡ by_age capacity held key
by_age-held capacity held key there = rw there refl
