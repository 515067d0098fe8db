-- What a contract sees of `Lists`: plain lists, whose entries have tokens.
use Rattle.std.specs.Prelude.{◌≡◌, ◌≢◌, ◌⊎◌, ℕ, ◌+◌, ◌-◌, Bool, true, false, cond, eqb, if◌then◌else◌, ◌==◌, List, [], ◌∷◌, ◌++◌, length}
use Rattle.std.specs.Prelude.{map, Option, Some, None, MatchOption, ◌<◌, ◌≤◌}
use Rattle.quick_cache_model.specs.Sequences.{times}
pub use Rattle.quick_cache_model.specs.Sequences.{turned}
use Rattle.std.specs.List.{AllByRecursion}
use Rattle.std.specs.List.Sorted.{IsPermutation}
use Rattle.std.specs.Int.NonZero.{non_zero_u32_get}
use Rattle.std.specs.declared.num.NonZeroU32.{NonZeroU32 as Token}
use Rattle.quick_cache_model.specs.declared.queue.Queue.{Queue}
use Rattle.quick_cache_store.specs.declared.slots.entry.Awaited.{Awaited}
use Rattle.quick_cache_store.specs.declared.slots.entry.Entry.{Entry}
use Rattle.quick_cache_store.specs.declared.lists.found.Found.{Found}
pub use Rattle.quick_cache_store.specs.Items.{with_counts, with_mark, read_once, used, with_weight, with_value, requeued}
pub use Rattle.quick_cache_store.specs.Slots.{is_placeholder}
use Rattle.quick_cache_model.specs.CacheState.{Item, Place, InHot, InCold, InStill, place_of_item}

-- an item under its token and its hash
pub record HeldItem (K V : Type 0) : Type 0 where
  pub token : ℕ
  pub hash : ℕ
  pub item : Item K V

-- a key that is being loaded, under its token and its hash
pub record HeldLoading (K P : Type 0) : Type 0 where
  pub token : ℕ
  pub hash : ℕ
  pub key : K
  pub queue : Queue
  pub placeholder : P

-- the item changed, if it has that token
abbrev pub changed_held : {K V : Type 0} → ℕ → (Item K V → Item K V) → HeldItem K V → HeldItem K V
changed_held token change held =
    cond (eqb held.token token) (record held { item = change held.item }) held

-- a ghost: its token and its hash
pub record HeldGhost : Type 0 where
  pub token : ℕ
  pub hash : ℕ

-- The hot and the cold ring, the next to be visited first, and the ghosts, the oldest first;
-- without order the items of weight 0 and the keys that are being loaded; the token that the next
-- entry gets; and how many more entries fit with no allocation.
pub record Lists (K V P : Type 0) : Type 0 where
  pub hot : List (HeldItem K V)
  pub cold : List (HeldItem K V)
  pub still : List (HeldItem K V)
  pub loading : List (HeldLoading K P)
  pub ghosts : List HeldGhost
  pub next : ℕ
  pub room : ℕ

-- an element stands in a list
pub record StandsIn {X : Type 0} (xs : List X) (x : X) : Type 0 where
  pub before : List X
  pub after : List X
  pub split : xs ≡ before ++ x ∷ after

-- the list without the elements of that token
abbrev pub dropped : {X : Type 0} → (X → ℕ) → ℕ → List X → List X
dropped name token [] = []
dropped name token (x ∷ xs) =
    cond (eqb (name x) token) (dropped name token xs) (x ∷ dropped name token xs)

-- what stands before the first element of that token, or all where there is none
abbrev pub ahead_of : {X : Type 0} → (X → ℕ) → ℕ → List X → List X
ahead_of name token [] = []
ahead_of name token (x ∷ xs) = cond (eqb (name x) token) [] (x ∷ ahead_of name token xs)

-- what stands behind the first element of that token, or nothing where there is none
abbrev pub behind : {X : Type 0} → (X → ℕ) → ℕ → List X → List X
behind name token [] = []
behind name token (x ∷ xs) = cond (eqb (name x) token) xs (behind name token xs)

-- the list without that element, begun behind it
abbrev pub restarted : {X : Type 0} → (X → ℕ) → ℕ → List X → List X
restarted name token xs = behind name token xs ++ ahead_of name token xs

-- the list without that element, in its order or begun behind it
abbrev pub left_by : {X : Type 0} → Bool → (X → ℕ) → ℕ → List X → List X
left_by false name token xs = dropped name token xs
left_by true name token xs = restarted name token xs

-- the number of a token, or 0 where there is none
abbrev pub number_or_zero : Option Token → ℕ
number_or_zero None = 0
number_or_zero (Some token) = non_zero_u32_get token

-- a token is that of the first element, if there is one
abbrev pub IsFirstOf : {X : Type 0} → (X → ℕ) → List X → Option Token → Type 0
IsFirstOf {X} name xs first =
    MatchOption first
    (xs ≡ [])
    (λ token. (x : X) × (rest : List X) × (xs ≡ x ∷ rest) × (name x ≡ non_zero_u32_get token))

module _ {K V P : Type 0} where
  -- no entries, and no room
  abbrev pub no_lists : Lists K V P
  no_lists =
      record { hot = []; cold = []; still = []; loading = []; ghosts = []; next = 1; room = 0 }

  -- the items of a place
  abbrev pub items_at : Place → Lists K V P → List (HeldItem K V)
  items_at InHot lists = lists.hot
  items_at InCold lists = lists.cold
  items_at InStill lists = lists.still

  abbrev pub with_items : Place → List (HeldItem K V) → Lists K V P → Lists K V P
  with_items InHot items lists = record lists { hot = items }
  with_items InCold items lists = record lists { cold = items }
  with_items InStill items lists = record lists { still = items }

  -- an item stands in one of the three places
  pub record HasItem (lists : Lists K V P) (held : HeldItem K V) : Type 0 where
    pub place : Place
    pub stands : StandsIn (items_at place lists) held

  -- the item was put last at its place
  abbrev pub entered : HeldItem K V → Lists K V P → Lists K V P
  entered held lists =
      with_items (place_of_item held.item)
      (items_at (place_of_item held.item) lists ++ held ∷ [])
      lists

  -- the same lists, but for the order of what has none
  pub record SameButOrder (old new : Lists K V P) : Type 0 where
    pub still : IsPermutation old.still new.still
    pub loading : IsPermutation old.loading new.loading
    pub same : new ≡ record old { still = new.still; loading = new.loading }

  -- no item and no placeholder of that hash has a key that passes
  pub record HasNoKey (stands_for : K → Bool) (hash : ℕ) (lists : Lists K V P) : Type 0 where
    pub hot : AllByRecursion (λ held. held.hash ≡ hash → stands_for held.item.key ≡ false) lists.hot
    pub cold : AllByRecursion
        (λ held. held.hash ≡ hash → stands_for held.item.key ≡ false) lists.cold
    pub still : AllByRecursion
        (λ held. held.hash ≡ hash → stands_for held.item.key ≡ false) lists.still
    pub loading : AllByRecursion
        (λ waiting. waiting.hash ≡ hash → stands_for waiting.key ≡ false) lists.loading

  -- no item of that hash has a key that passes
  pub record HasNoItem (stands_for : K → Bool) (hash : ℕ) (lists : Lists K V P) : Type 0 where
    pub hot : AllByRecursion (λ held. held.hash ≡ hash → stands_for held.item.key ≡ false) lists.hot
    pub cold : AllByRecursion
        (λ held. held.hash ≡ hash → stands_for held.item.key ≡ false) lists.cold
    pub still : AllByRecursion
        (λ held. held.hash ≡ hash → stands_for held.item.key ≡ false) lists.still

  -- no item has such a key, nor a placeholder, and there is no ghost of that hash
  pub record HasNothing (stands_for : K → Bool) (hash : ℕ) (lists : Lists K V P) : Type 0 where
    pub keys : HasNoKey stands_for hash lists
    pub ghosts : AllByRecursion (λ shade. shade.hash ≢ hash) lists.ghosts

  -- the item of that token has the hash, and a key that passes
  pub record FindsItem (stands_for : K → Bool) (hash : ℕ) (lists : Lists K V P) (token : ℕ)
      : Type 0 where
    pub item : Item K V
    pub stands : HasItem lists (record { token = token; hash = hash; item = item })
    pub passes : stands_for item.key ≡ true

  -- the item of that token has a key that passes, under whatever hash it stands
  abbrev pub FindsItemOfAnyHash : (stands_for : K → Bool) → Lists K V P → (token : ℕ) → Type 0
  FindsItemOfAnyHash stands_for lists token = (hash : ℕ) × FindsItem stands_for hash lists token

  -- the placeholder of that token has the hash, and a key that passes
  pub record FindsLoading (stands_for : K → Bool) (hash : ℕ) (lists : Lists K V P) (token : ℕ)
      : Type 0 where
    pub waiting : HeldLoading K P
    pub named : waiting.token ≡ token
    pub hashed : waiting.hash ≡ hash
    pub stands : StandsIn lists.loading waiting
    pub passes : stands_for waiting.key ≡ true

  -- what a query finds
  abbrev pub Finds : (stands_for : K → Bool) (hash : ℕ) → Lists K V P → Found → Type 0
  Finds stands_for hash lists (Found.Item token) =
      FindsItem stands_for hash lists (non_zero_u32_get token)
  Finds stands_for hash lists (Found.Loading token) =
      FindsLoading stands_for hash lists (non_zero_u32_get token)
  Finds stands_for hash lists (Found.Ghost token) =
      HasNoKey stands_for hash lists
      × StandsIn lists.ghosts (record { token = non_zero_u32_get token; hash = hash })
  Finds stands_for hash lists Found.Nothing = HasNothing stands_for hash lists

  -- What a query finds that compares keys alone: an item or a placeholder with such a key, under
  -- whatever hash it stands.
  abbrev pub FindsByKey : (stands_for : K → Bool) (hash : ℕ) → Lists K V P → Found → Type 0
  FindsByKey stands_for hash lists (Found.Item token) =
      FindsItemOfAnyHash stands_for lists (non_zero_u32_get token)
  FindsByKey stands_for hash lists (Found.Loading token) =
      (of_key : ℕ) × FindsLoading stands_for of_key lists (non_zero_u32_get token)
  FindsByKey stands_for hash lists (Found.Ghost token) =
      HasNoKey stands_for hash lists
      × StandsIn lists.ghosts (record { token = non_zero_u32_get token; hash = hash })
  FindsByKey stands_for hash lists Found.Nothing = HasNothing stands_for hash lists

  -- an entry has the token
  abbrev pub HasEntry : Lists K V P → ℕ → Type 0
  HasEntry lists token =
      ((held : HeldItem K V) × HasItem lists held × (held.token ≡ token))
      ⊎ ((waiting : HeldLoading K P) × StandsIn lists.loading waiting × (waiting.token ≡ token))
      ⊎ ((shade : HeldGhost) × StandsIn lists.ghosts shade × (shade.token ≡ token))

  -- the entry of that token is this one, under that hash
  abbrev pub IsEntry : {T : Type 0} → Lists K V P → (token hash : ℕ) → Entry K V P T → Type 0
  IsEntry lists token hash (Entry.Item item) =
      HasItem lists (record { token = token; hash = hash; item = item })
  IsEntry lists token hash (Entry.Loading awaited) =
      StandsIn lists.loading (record {
        token = token;
        hash = hash;
        key = awaited.key;
        queue = awaited.queue;
        placeholder = awaited.placeholder;
      })
  IsEntry lists token hash Entry.Ghost =
      StandsIn lists.ghosts (record { token = token; hash = hash })

  -- the lists without the entry of that token, whose ring keeps its order or begins behind it
  abbrev pub without_entry : (restarts : Bool) → (token : ℕ) → Lists K V P → Lists K V P
  without_entry restarts token lists = record {
    hot = left_by restarts (λ held. held.token) token lists.hot;
    cold = left_by restarts (λ held. held.token) token lists.cold;
    still = dropped (λ held. held.token) token lists.still;
    loading = dropped (λ waiting. waiting.token) token lists.loading;
    ghosts = left_by restarts (λ shade. shade.token) token lists.ghosts;
    next = token;
    room = lists.room + 1;
  }

  -- the lists with the entry put last: in its ring, or among those that stand in none
  abbrev pub with_last : {T : Type 0} → (token hash : ℕ) → Entry K V P T → Lists K V P → Lists K V P
  with_last token hash (Entry.Item item) lists =
      entered (record { token = token; hash = hash; item = item }) lists
  with_last token hash (Entry.Loading awaited) lists =
      record lists {
        loading = lists.loading ++ record {
          token = token;
          hash = hash;
          key = awaited.key;
          queue = awaited.queue;
          placeholder = awaited.placeholder;
        } ∷ [];
      }
  with_last token hash Entry.Ghost lists =
      record lists { ghosts = lists.ghosts ++ record { token = token; hash = hash } ∷ [] }

  -- the entry stands in a ring
  abbrev pub is_in_ring : {T : Type 0} → Entry K V P T → Bool
  is_in_ring (Entry.Item item) = if item.weight == 0 then false else true
  is_in_ring (Entry.Loading awaited) = false
  is_in_ring Entry.Ghost = true

  -- the entry is an item that weighs nothing
  abbrev pub is_weightless : {T : Type 0} → Entry K V P T → Bool
  is_weightless (Entry.Item item) = item.weight == 0
  is_weightless (Entry.Loading awaited) = false
  is_weightless Entry.Ghost = false

  -- The entry was put last under that token. A placeholder may come to any place among the
  -- placeholders, and an item that weighs nothing to any place among the weightless: these may be
  -- in another order, and nothing else.
  pub record PutsLast {T : Type 0} (old : Lists K V P) (token hash : ℕ) (entry : Entry K V P T)
      (new : Lists K V P) : Type 0 where
    pub put : SameButOrder
        (record (with_last token hash entry old) { next = new.next; room = new.room })
        new
    pub in_ring : is_in_ring entry ≡ true
        → new ≡ record (with_last token hash entry old) { next = new.next; room = new.room }
    pub still_stays : is_weightless entry ≡ false → new.still ≡ old.still
    pub loading_stays : is_placeholder entry ≡ false → new.loading ≡ old.loading

  -- The entry of that token left its list, its ring kept its order or began behind it, and another
  -- was put last under the same token and hash. The room and the next token stay.
  pub record Replaces {T : Type 0} (old : Lists K V P) (token : ℕ) (restarts : Bool)
      (entry was : Entry K V P T) (new : Lists K V P) : Type 0 where
    pub hash : ℕ
    pub taken : IsEntry old token hash was
    pub last : PutsLast (without_entry restarts token old) token hash entry new
    pub room : new.room ≡ old.room
    pub next : new.next ≡ old.next

  -- The item was put last under that token. Where it weighs nothing, the weightless may be in
  -- another order, and nothing else.
  pub record PutsItem (old : Lists K V P) (token hash : ℕ) (item : Item K V) (new : Lists K V P)
      : Type 0 where
    pub put : SameButOrder
        (record (entered (record { token = token; hash = hash; item = item }) old) {
          next = new.next;
          room = new.room;
        })
        new
    pub in_ring : 0 < item.weight
        → new ≡ record (entered (record { token = token; hash = hash; item = item }) old) {
          next = new.next;
          room = new.room;
        }
    pub loading_stays : new.loading ≡ old.loading

  -- The item of that token left its list, its ring kept its order or began behind it, and once
  -- changed it was put last under the same token and hash. The room and the next token stay.
  pub record Requeues (old : Lists K V P) (token : ℕ) (restarts : Bool)
      (change : Item K V → Item K V) (new : Lists K V P) : Type 0 where
    pub hash : ℕ
    pub item : Item K V
    pub taken : HasItem old (record { token = token; hash = hash; item = item })
    pub last : PutsItem (without_entry restarts token old) token hash (change item) new
    pub room : new.room ≡ old.room
    pub next : new.next ≡ old.next

  -- an item has the token
  abbrev pub HasItemToken : Lists K V P → ℕ → Type 0
  HasItemToken lists token = (held : HeldItem K V) × HasItem lists held × (held.token ≡ token)

  -- an item has the token and the hash
  abbrev pub HasItemUnder : Lists K V P → (token hash : ℕ) → Type 0
  HasItemUnder lists token hash =
      (item : Item K V) × HasItem lists (record { token = token; hash = hash; item = item })

  -- the result is the least token of an item above that token, or nothing where there is none
  pub record IsFirstAbove (lists : Lists K V P) (token : ℕ) (result : Option Token) : Type 0 where
    pub none : result ≡ None → (other : ℕ) → token < other → ¬ HasItemToken lists other
    pub found : (first : Token) → result ≡ Some first
        → (token < non_zero_u32_get first) × HasItemToken lists (non_zero_u32_get first)
    pub least : (first : Token) (other : ℕ) → result ≡ Some first → token < other
        → other < non_zero_u32_get first → ¬ HasItemToken lists other

  -- a ghost has the token
  abbrev pub HasGhostToken : Lists K V P → ℕ → Type 0
  HasGhostToken lists token =
      (shade : HeldGhost) × StandsIn lists.ghosts shade × (shade.token ≡ token)

  -- a placeholder has the token
  abbrev pub HasLoadingToken : Lists K V P → ℕ → Type 0
  HasLoadingToken lists token =
      (waiting : HeldLoading K P) × StandsIn lists.loading waiting × (waiting.token ≡ token)

  -- how many items there are
  abbrev pub item_count : Lists K V P → ℕ
  item_count lists = length lists.hot + length lists.cold + length lists.still

  -- the key that is being loaded under that token is this one
  abbrev pub IsAwaitedOf : Lists K V P → (token : ℕ) → Awaited K P → Type 0
  IsAwaitedOf lists token awaited =
      (hash : ℕ)
      × StandsIn lists.loading (record {
        token = token;
        hash = hash;
        key = awaited.key;
        queue = awaited.queue;
        placeholder = awaited.placeholder;
      })

  -- the item of that token is this one
  abbrev pub IsItemOf : Lists K V P → (token : ℕ) → Item K V → Type 0
  IsItemOf lists token item =
      (hash : ℕ) × HasItem lists (record { token = token; hash = hash; item = item })

  -- the value is that of the item of that token
  abbrev pub IsValueAt : Lists K V P → (token : ℕ) → V → Type 0
  IsValueAt lists token value =
      (item : Item K V) × IsItemOf lists token item × (value ≡ item.value)

  -- an item of that queue has the token
  abbrev pub HasItemOfQueue : Lists K V P → (token : ℕ) → Queue → Type 0
  HasItemOfQueue lists token queue =
      (item : Item K V) × IsItemOf lists token item × (item.queue ≡ queue)

  -- The item stands in for the one between these two lists, and its weight decides where: it keeps
  -- its place where both or neither weigh nothing; one that lost its weight leaves its ring, which
  -- begins behind it; and one that gained weight is put last in its ring.
  abbrev pub held_rewritten : Place → (before : List (HeldItem K V)) (held : HeldItem K V)
      (after : List (HeldItem K V)) → Lists K V P → Lists K V P
  held_rewritten InStill before held after lists =
      if held.item.weight == 0 then with_items InStill (before ++ held ∷ after) lists
      else entered held (with_items InStill (before ++ after) lists)
  held_rewritten InHot before held after lists =
      if held.item.weight == 0 then entered held (with_items InHot (after ++ before) lists)
      else with_items InHot (before ++ held ∷ after) lists
  held_rewritten InCold before held after lists =
      if held.item.weight == 0 then entered held (with_items InCold (after ++ before) lists)
      else with_items InCold (before ++ held ∷ after) lists

  -- The item stands in for the old one of that token, under the same token and hash. Where it lost
  -- its weight, the weightless may be in another order, and nothing else.
  pub record Rewrites (old : Lists K V P) (token : ℕ) (item was : Item K V) (new : Lists K V P)
      : Type 0 where
    pub hash : ℕ
    pub place : Place
    pub before : List (HeldItem K V)
    pub after : List (HeldItem K V)
    pub placed : place ≡ place_of_item was
    pub split : items_at place old
        ≡ before ++ record { token = token; hash = hash; item = was } ∷ after
    pub rewritten : SameButOrder
        (held_rewritten place before (record { token = token; hash = hash; item = item }) after old)
        new
    pub in_place : (item.weight == 0) ≡ (was.weight == 0)
        → new ≡ with_items place
        (before ++ record { token = token; hash = hash; item = item } ∷ after) old
    pub in_ring : 0 < item.weight
        → new ≡ held_rewritten place before (record { token = token; hash = hash; item = item })
        after old
    pub loading_stays : new.loading ≡ old.loading

  -- the item of that token has another weight, and stands where the weight decides
  abbrev pub Reweighs : (old : Lists K V P) (token weight : ℕ) → Lists K V P → Type 0
  Reweighs old token weight new =
      (item : Item K V) × Rewrites old token (with_weight weight item) item new

  -- the lists once this ring begins one further on
  abbrev pub ring_turned : Queue → Lists K V P → Lists K V P
  ring_turned Queue.Hot lists = record lists { hot = turned lists.hot }
  ring_turned Queue.Cold lists = record lists { cold = turned lists.cold }

  -- the lists with the item of that token changed
  abbrev pub with_change : (token : ℕ) → (Item K V → Item K V) → Lists K V P → Lists K V P
  with_change token change lists = record lists {
    hot = map (changed_held token change) lists.hot;
    cold = map (changed_held token change) lists.cold;
    still = map (changed_held token change) lists.still;
  }

  -- how many entries have the token
  abbrev pub entries_of : ℕ → Lists K V P → ℕ
  entries_of token lists =
      times token (map (λ held. held.token) lists.hot)
      + times token (map (λ held. held.token) lists.cold)
      + times token (map (λ held. held.token) lists.still)
      + times token (map (λ waiting. waiting.token) lists.loading)
      + times token (map (λ shade. shade.token) lists.ghosts)

  -- how many entries there are
  abbrev pub entry_count : Lists K V P → ℕ
  entry_count lists =
      length lists.hot + length lists.cold + length lists.still + length lists.loading
      + length lists.ghosts

  -- how many more entries there can be, with memory for them
  abbrev pub slots_left : Lists K V P → ℕ
  slots_left lists = 4294967294 - entry_count lists

  -- each token has one entry at most
  abbrev pub AreApart : Lists K V P → Type 0
  AreApart lists = (token : ℕ) → entries_of token lists ≤ 1
