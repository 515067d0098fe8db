-- Each token has one entry: two entries that are found under a token are one.
use Rattle.std.proofs.Common.{◌≡◌, ℕ, ◌+◌, List, [], ◌∷◌, ◌++◌, map, refl, sym, ap, ◌∙◌, arith}
use Rattle.std.proofs.lemmas.List.{map-append, append_assoc}
use Rattle.quick_cache_model.specs.CacheState.{Item, Place, InHot, InCold, InStill}
use Rattle.quick_cache_store.specs.Pool.{times}
use Rattle.quick_cache_store.proofs.pool.TokenCounts.{times-append}
use Rattle.quick_cache_store.specs.declared.slots.entry.Awaited.{Awaited}
use Rattle.quick_cache_store.specs.declared.slots.entry.Entry.{Entry}
use Rattle.quick_cache_store.specs.Lists.{HeldItem, HeldLoading, HeldGhost, Lists, StandsIn, HasItem, IsEntry, AreApart, items_at}
use Rattle.quick_cache_store.specs.Lists.{entries_of}
use Rattle.quick_cache_store.proofs.lists.OneEntryLemmas.{one-element}

-- ---- one list

module _ {X : Type 0} where
  -- what stands in a list stands in a longer one
  pub StandsIn-left : (xs ys : List X) (x : X) → StandsIn xs x → StandsIn (xs ++ ys) x
  StandsIn-left xs ys x s = record {
    before = s.before;
    after = s.after ++ ys;
    split = ap (λ l. l ++ ys) s.split ∙ append_assoc s.before (x ∷ s.after) ys;
  }

  pub StandsIn-right : (xs ys : List X) (x : X) → StandsIn ys x → StandsIn (xs ++ ys) x
  StandsIn-right xs ys x s = record {
    before = xs ++ s.before;
    after = s.after;
    split = ap (λ l. xs ++ l) s.split ∙ sym (append_assoc xs s.before (x ∷ s.after));
  }

  -- and so does its image
  pub StandsIn-map : {Y : Type 0} (f : X → Y) (xs : List X) (x : X) → StandsIn xs x
      → StandsIn (map f xs) (f x)
  StandsIn-map f xs x s = record {
    before = map f s.before;
    after = map f s.after;
    split = ap (map f) s.split ∙ map-append f s.before (x ∷ s.after);
  }

-- ---- all entries in one list

-- an entry of one of the lists
pub data Standing (K V P : Type 0) : Type 0 where
  OfItem : (held : HeldItem K V) → Standing K V P
  OfLoading : (waiting : HeldLoading K P) → Standing K V P
  OfGhost : (shade : HeldGhost) → Standing K V P

module _ {K V P : Type 0} where
  -- its token
  abbrev pub token_of : Standing K V P → ℕ
  token_of (Standing.OfItem held) = held.token
  token_of (Standing.OfLoading waiting) = waiting.token
  token_of (Standing.OfGhost shade) = shade.token

  -- its hash
  abbrev pub hash_of : Standing K V P → ℕ
  hash_of (Standing.OfItem held) = held.hash
  hash_of (Standing.OfLoading waiting) = waiting.hash
  hash_of (Standing.OfGhost shade) = shade.hash

  -- the entries of each list
  abbrev hot_of : Lists K V P → List (Standing K V P)
  hot_of lists = map Standing.OfItem lists.hot

  abbrev cold_of : Lists K V P → List (Standing K V P)
  cold_of lists = map Standing.OfItem lists.cold

  abbrev still_of : Lists K V P → List (Standing K V P)
  still_of lists = map Standing.OfItem lists.still

  abbrev loading_of : Lists K V P → List (Standing K V P)
  loading_of lists = map Standing.OfLoading lists.loading

  abbrev ghosts_of : Lists K V P → List (Standing K V P)
  ghosts_of lists = map Standing.OfGhost lists.ghosts

  -- all entries, one list behind the other
  abbrev pub standings : Lists K V P → List (Standing K V P)
  standings lists = hot_of lists
      ++ (cold_of lists ++ (still_of lists ++ (loading_of lists ++ ghosts_of lists)))

  -- the entry of that token and hash
  abbrev pub standing_of : {T : Type 0} → (token hash : ℕ) → Entry K V P T → Standing K V P
  standing_of token hash (Entry.Item item) =
      Standing.OfItem (record { token = token; hash = hash; item = item })
  standing_of token hash (Entry.Loading awaited) =
      Standing.OfLoading (record {
        token = token;
        hash = hash;
        key = awaited.key;
        queue = awaited.queue;
        placeholder = awaited.placeholder;
      })
  standing_of token hash Entry.Ghost =
      Standing.OfGhost (record { token = token; hash = hash })

module _ (K V P : Type 0) where
  -- an entry as one of all
  abbrev as_item : HeldItem K V → Standing K V P
  as_item x = Standing.OfItem x

  abbrev as_loading : HeldLoading K P → Standing K V P
  as_loading x = Standing.OfLoading x

  abbrev as_ghost : HeldGhost → Standing K V P
  as_ghost x = Standing.OfGhost x

  tokens-items : (xs : List (HeldItem K V))
      → map token_of (map (λ (x : HeldItem K V). as_item x) xs)
      ≡ map (λ (h : HeldItem K V). h.token) xs
  tokens-items [] = refl
  tokens-items (x ∷ xs) = ap (λ l. x.token ∷ l) (tokens-items xs)

  tokens-loading : (xs : List (HeldLoading K P))
      → map token_of (map (λ (x : HeldLoading K P). as_loading x) xs)
      ≡ map (λ (w : HeldLoading K P). w.token) xs
  tokens-loading [] = refl
  tokens-loading (x ∷ xs) = ap (λ l. x.token ∷ l) (tokens-loading xs)

  tokens-ghosts : (xs : List HeldGhost)
      → map token_of (map (λ (x : HeldGhost). as_ghost x) xs)
      ≡ map (λ (g : HeldGhost). g.token) xs
  tokens-ghosts [] = refl
  tokens-ghosts (x ∷ xs) = ap (λ l. x.token ∷ l) (tokens-ghosts xs)

module _ {K V P : Type 0} where
  module _ (t : ℕ) where
    -- how often a token stands in two lists, one behind the other
    tokens-append : (xs ys : List (Standing K V P))
        → times t (map token_of (xs ++ ys))
        ≡ times t (map token_of xs) + times t (map token_of ys)
    tokens-append xs ys = ap (times t) (map-append token_of xs ys)
        ∙ times-append t (map token_of xs) (map token_of ys)

    -- they have a token as often as the lists do
    pub standings-count : (lists : Lists K V P)
        → times t (map token_of (standings lists)) ≡ entries_of t lists
    standings-count lists = omega (
      arith,
      tokens-append (hot_of lists)
          (cold_of lists ++ (still_of lists ++ (loading_of lists ++ ghosts_of lists))),
      tokens-append (cold_of lists) (still_of lists ++ (loading_of lists ++ ghosts_of lists)),
      tokens-append (still_of lists) (loading_of lists ++ ghosts_of lists),
      tokens-append (loading_of lists) (ghosts_of lists),
      ap (times t) (tokens-items K V P lists.hot),
      ap (times t) (tokens-items K V P lists.cold),
      ap (times t) (tokens-items K V P lists.still),
      ap (times t) (tokens-loading K V P lists.loading),
      ap (times t) (tokens-ghosts K V P lists.ghosts),
    )

  module _ (lists : Lists K V P) where
    -- an item is among them
    pub StandsIn-item : (held : HeldItem K V) → HasItem lists held
        → StandsIn (standings lists) (Standing.OfItem held)
    StandsIn-item held has = go has.place has.stands
      where
        go : (place : Place) → StandsIn (items_at place lists) held
            → StandsIn (standings lists) (Standing.OfItem held)
        go InHot s = StandsIn-left (hot_of lists)
            (cold_of lists ++ (still_of lists ++ (loading_of lists ++ ghosts_of lists))) _
            (StandsIn-map Standing.OfItem lists.hot held s)
        go InCold s = StandsIn-right (hot_of lists)
            (cold_of lists ++ (still_of lists ++ (loading_of lists ++ ghosts_of lists))) _
            (StandsIn-left (cold_of lists)
            (still_of lists ++ (loading_of lists ++ ghosts_of lists)) _
            (StandsIn-map Standing.OfItem lists.cold held s))
        go InStill s = StandsIn-right (hot_of lists)
            (cold_of lists ++ (still_of lists ++ (loading_of lists ++ ghosts_of lists))) _
            (StandsIn-right (cold_of lists)
            (still_of lists ++ (loading_of lists ++ ghosts_of lists)) _
            (StandsIn-left (still_of lists) (loading_of lists ++ ghosts_of lists) _
            (StandsIn-map Standing.OfItem lists.still held s)))

    -- what stands behind the items
    behind_items : (x : Standing K V P) → StandsIn (loading_of lists ++ ghosts_of lists) x
        → StandsIn (standings lists) x
    behind_items x s = StandsIn-right (hot_of lists)
        (cold_of lists ++ (still_of lists ++ (loading_of lists ++ ghosts_of lists))) x
        (StandsIn-right (cold_of lists)
        (still_of lists ++ (loading_of lists ++ ghosts_of lists)) x
        (StandsIn-right (still_of lists) (loading_of lists ++ ghosts_of lists) x s))

    -- so is a placeholder
    pub StandsIn-loading : (waiting : HeldLoading K P) → StandsIn lists.loading waiting
        → StandsIn (standings lists) (Standing.OfLoading waiting)
    StandsIn-loading waiting s = behind_items (Standing.OfLoading waiting)
        (StandsIn-left (loading_of lists) (ghosts_of lists) _
        (StandsIn-map Standing.OfLoading lists.loading waiting s))

    -- and a ghost
    pub StandsIn-ghost : (shade : HeldGhost) → StandsIn lists.ghosts shade
        → StandsIn (standings lists) (Standing.OfGhost shade)
    StandsIn-ghost shade s = behind_items (Standing.OfGhost shade)
        (StandsIn-right (loading_of lists) (ghosts_of lists) _
        (StandsIn-map Standing.OfGhost lists.ghosts shade s))

    -- an entry as a call gives it
    pub StandsIn-entry : {T : Type 0} (token hash : ℕ) (entry : Entry K V P T)
        → IsEntry lists token hash entry
        → StandsIn (standings lists) (standing_of token hash entry)
    StandsIn-entry token hash (Entry.Item item) is =
        StandsIn-item (record { token = token; hash = hash; item = item }) is
    StandsIn-entry token hash (Entry.Loading awaited) is = StandsIn-loading _ is
    StandsIn-entry token hash Entry.Ghost is =
        StandsIn-ghost (record { token = token; hash = hash }) is

    -- two of one token are one
    pub one_standing : AreApart lists → (x y : Standing K V P) → StandsIn (standings lists) x
        → StandsIn (standings lists) y → token_of y ≡ token_of x → y ≡ x
    one_standing apart x y s r same =
        one-element token_of (token_of x) s.before s.after r.before r.after x y
        (sym s.split ∙ r.split) refl same
        (omega (
          arith,
          apart (token_of x),
          standings-count (token_of x) lists,
          ap (λ (l : List (Standing K V P)). times (token_of x) (map token_of l)) s.split,
        ))

  -- the token of an entry is the one that it is found under
  pub standing_of-token : {T : Type 0} (token hash : ℕ) (entry : Entry K V P T)
      → token_of (standing_of token hash entry) ≡ token
  standing_of-token token hash (Entry.Item item) = refl
  standing_of-token token hash (Entry.Loading awaited) = refl
  standing_of-token token hash Entry.Ghost = refl

  -- and its hash is that
  pub standing_of-hash : {T : Type 0} (token hash : ℕ) (entry : Entry K V P T)
      → hash_of (standing_of token hash entry) ≡ hash
  standing_of-hash token hash (Entry.Item item) = refl
  standing_of-hash token hash (Entry.Loading awaited) = refl
  standing_of-hash token hash Entry.Ghost = refl

  -- what a call gives of a token is the known entry of that token
  pub known_standing : {T : Type 0} (lists : Lists K V P) → AreApart lists
      → (known : Standing K V P) → StandsIn (standings lists) known
      → (token hash : ℕ) (entry : Entry K V P T) → token_of known ≡ token
      → IsEntry lists token hash entry → standing_of token hash entry ≡ known
  known_standing lists apart known stands token hash entry named is =
      one_standing lists apart known (standing_of token hash entry) stands
      (StandsIn-entry lists token hash entry is) (standing_of-token token hash entry ∙ sym named)

  -- so it has the known hash
  pub known_hash : {T : Type 0} (lists : Lists K V P) → AreApart lists
      → (known : Standing K V P) → StandsIn (standings lists) known
      → (token hash : ℕ) (entry : Entry K V P T) → token_of known ≡ token
      → IsEntry lists token hash entry → hash ≡ hash_of known
  known_hash lists apart known stands token hash entry named is =
      sym (standing_of-hash token hash entry)
      ∙ ap hash_of (known_standing lists apart known stands token hash entry named is)

-- an item of a known item's token is that item, under its hash
pub found-same : {K V P : Type 0} (lists : Lists K V P) → AreApart lists → (token : ℕ)
    (held other : HeldItem K V) → HasItem lists held → HasItem lists other → held.token ≡ token
    → other.token ≡ token → other ≡ held
found-same {K = K} {V = V} {P = P} lists apart token held other has also named is =
    held_of (one_standing lists apart (Standing.OfItem held) (Standing.OfItem other)
    (StandsIn-item lists held has) (StandsIn-item lists other also) (is ∙ sym named))
  where
    held_of : ◌≡◌ {A = Standing K V P} (Standing.OfItem other) (Standing.OfItem held) → other ≡ held
    held_of e = cc e

module _ {K V P T : Type 0} (lists : Lists K V P) (apart : AreApart lists) (token hash : ℕ)
    (entry : Entry K V P T) (is : IsEntry lists token hash entry) where
  -- what is found under the token of a known item is that item
  pub entry-item : (held : HeldItem K V) → HasItem lists held → held.token ≡ token
      → standing_of token hash entry ≡ Standing.OfItem held
  entry-item held has named = known_standing lists apart (Standing.OfItem held)
      (StandsIn-item lists held has) token hash entry named is

  -- so it is no placeholder and no ghost
  pub not-loading : (held : HeldItem K V) → HasItem lists held → held.token ≡ token
      → (awaited : Awaited K P) → entry ≡ Entry.Loading awaited → ⊥
  not-loading held has named awaited e = clash (sym (ap (λ (x : Entry K V P T). standing_of token hash x) e)
      ∙ entry-item held has named)
    where
      clash : ◌≡◌ {A = Standing K V P} (Standing.OfLoading (record {
        token = token;
        hash = hash;
        key = awaited.key;
        queue = awaited.queue;
        placeholder = awaited.placeholder;
      })) (Standing.OfItem held) → ⊥
      clash same = cc same

  pub not-ghost : (held : HeldItem K V) → HasItem lists held → held.token ≡ token
      → entry ≡ Entry.Ghost → ⊥
  not-ghost held has named e = clash (sym (ap (λ (x : Entry K V P T). standing_of token hash x) e)
      ∙ entry-item held has named)
    where
      clash : ◌≡◌ {A = Standing K V P} (Standing.OfGhost (record { token = token; hash = hash }))
          (Standing.OfItem held) → ⊥
      clash same = cc same

  -- it is that item
  pub entry-is_item : (held : HeldItem K V) → HasItem lists held → held.token ≡ token
      → (item : Item K V) → entry ≡ Entry.Item item
      → record { token = token; hash = hash; item = item } ≡ held
  entry-is_item held has named item e = same (sym (ap (λ (x : Entry K V P T). standing_of token hash x) e)
      ∙ entry-item held has named)
    where
      same : ◌≡◌ {A = Standing K V P}
          (Standing.OfItem (record { token = token; hash = hash; item = item }))
          (Standing.OfItem held) → record { token = token; hash = hash; item = item } ≡ held
      same s = cc s

  -- what is found under the token of a known placeholder has its hash
  pub loading-hash : (waiting : HeldLoading K P) → StandsIn lists.loading waiting
      → waiting.token ≡ token → hash ≡ waiting.hash
  loading-hash waiting stands named = known_hash lists apart (Standing.OfLoading waiting)
      (StandsIn-loading lists waiting stands) token hash entry named is

  -- what is found under the token of a known ghost has its hash
  pub ghost-hash : (shade : HeldGhost) → StandsIn lists.ghosts shade → shade.token ≡ token
      → hash ≡ shade.hash
  ghost-hash shade stands named = known_hash lists apart (Standing.OfGhost shade)
      (StandsIn-ghost lists shade stands) token hash entry named is

  -- it is that placeholder, no item and no ghost
  entry-loading : (waiting : HeldLoading K P) → StandsIn lists.loading waiting
      → waiting.token ≡ token → standing_of token hash entry ≡ Standing.OfLoading waiting
  entry-loading waiting stands named = known_standing lists apart (Standing.OfLoading waiting)
      (StandsIn-loading lists waiting stands) token hash entry named is

  pub loading-not_item : (waiting : HeldLoading K P) → StandsIn lists.loading waiting
      → waiting.token ≡ token → (item : Item K V) → entry ≡ Entry.Item item → ⊥
  loading-not_item waiting stands named item e =
      clash (sym (ap (λ (x : Entry K V P T). standing_of token hash x) e)
      ∙ entry-loading waiting stands named)
    where
      clash : ◌≡◌ {A = Standing K V P}
          (Standing.OfItem (record { token = token; hash = hash; item = item }))
          (Standing.OfLoading waiting) → ⊥
      clash s = cc s

  pub loading-not_ghost : (waiting : HeldLoading K P) → StandsIn lists.loading waiting
      → waiting.token ≡ token → entry ≡ Entry.Ghost → ⊥
  loading-not_ghost waiting stands named e =
      clash (sym (ap (λ (x : Entry K V P T). standing_of token hash x) e)
      ∙ entry-loading waiting stands named)
    where
      clash : ◌≡◌ {A = Standing K V P} (Standing.OfGhost (record { token = token; hash = hash }))
          (Standing.OfLoading waiting) → ⊥
      clash s = cc s
