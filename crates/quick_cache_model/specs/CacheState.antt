-- What a cache holds: items in two rings and outside of them, keys that are being loaded, and
-- ghosts.
use Rattle.std.specs.Prelude.{◌≡◌, ℕ, ◌+◌, ◌<◌, ◌≤◌, Bool, List, [], ◌∷◌, ◌++◌, length, sum_by, count_by, if◌then◌else◌, ◌==◌}
use Rattle.std.specs.List.{AllByRecursion}
use Rattle.std.specs.List.Sorted.{IsPermutation}
use Rattle.quick_cache_model.specs.declared.queue.Queue.{Queue}

-- An entry that can be found: its pair, the weight that it counts for, how often it was used lately
-- (its mark), how often it was read, and the ring that it is of.
pub record Item (K V : Type 0) : Type 0 where
  pub key : K
  pub value : V
  pub weight : ℕ
  pub mark : ℕ
  pub reads : ℕ
  pub queue : Queue

-- a key that is being loaded: its placeholder has a ticket, by which its guard names it
pub record LoadingEntry (K : Type 0) : Type 0 where
  pub key : K
  pub queue : Queue
  pub ticket : ℕ

-- Three lists: the items of the hot and of the cold ring, the next to be visited first, and the
-- hashes of items that left the cold ring lately, the oldest first. Beside them, without order, the
-- items of weight 0 and the keys that are being loaded; and the numbers of the cache.
pub record CacheState (K V : Type 0) : Type 0 where
  pub hot : List (Item K V)
  pub cold : List (Item K V)
  pub ghosts : List ℕ
  pub still : List (Item K V)
  pub loading : List (LoadingEntry K)
  pub capacity : ℕ
  pub hot_target : ℕ
  pub ghost_limit : ℕ
  pub mark_cut : ℕ
  pub hits : ℕ
  pub misses : ℕ
  pub next_ticket : ℕ

-- the greatest mark of an item, where none is set
abbrev pub default_mark_cut : ℕ
default_mark_cut = 2

-- a cache that nothing was put into
abbrev pub empty_state : {K V : Type 0} → (capacity hot_target ghost_limit : ℕ) → CacheState K V
empty_state capacity hot_target ghost_limit = record {
  hot = [];
  cold = [];
  ghosts = [];
  still = [];
  loading = [];
  capacity = capacity;
  hot_target = hot_target;
  ghost_limit = ghost_limit;
  mark_cut = default_mark_cut;
  hits = 0;
  misses = 0;
  next_ticket = 1;
}

module _ {K V : Type 0} where
  -- the weight of a list of items, without bound
  abbrev pub weight_of : List (Item K V) → ℕ
  weight_of items = sum_by (λ item. item.weight) items

  abbrev pub hot_weight : CacheState K V → ℕ
  hot_weight state = weight_of state.hot

  abbrev pub cold_weight : CacheState K V → ℕ
  cold_weight state = weight_of state.cold

  -- the weight of all items: those that stand in no ring weigh nothing
  abbrev pub total_weight : CacheState K V → ℕ
  total_weight state = hot_weight state + cold_weight state

  -- how many items there are
  abbrev pub item_count : CacheState K V → ℕ
  item_count state = length state.hot + length state.cold + length state.still

-- one of the three places of an item
pub data Place : Type 0 where
  InHot : Place
  InCold : Place
  InStill : Place

-- the place of a ring
abbrev pub ring_place : Queue → Place
ring_place Queue.Hot = InHot
ring_place Queue.Cold = InCold

module _ {K V : Type 0} where
  -- the items of a place
  abbrev pub items_at : Place → CacheState K V → List (Item K V)
  items_at InHot state = state.hot
  items_at InCold state = state.cold
  items_at InStill state = state.still

  -- the same state with other items at a place
  abbrev pub with_items : Place → List (Item K V) → CacheState K V → CacheState K V
  with_items InHot items state = record state { hot = items }
  with_items InCold items state = record state { cold = items }
  with_items InStill items state = record state { still = items }

  -- an item of weight 0 stands in no ring
  abbrev pub place_of_item : Item K V → Place
  place_of_item item = if item.weight == 0 then InStill else ring_place item.queue

  -- the state once the item was put last at its place
  abbrev pub entered : Item K V → CacheState K V → CacheState K V
  entered item state = with_items (place_of_item item)
      (items_at (place_of_item item) state ++ item ∷ []) state

  -- a ring that an item left: it begins with what stood behind the item, and ends with what stood
  -- before it
  abbrev pub restarted_behind : (before after : List (Item K V)) → List (Item K V)
  restarted_behind before after = after ++ before

  -- The item stands in for the one between these two lists, and its weight decides where: it keeps
  -- its place where both or neither weigh nothing; one that lost its weight leaves its ring, which
  -- begins behind it; and one that gained weight is put last in its ring.
  abbrev pub rewritten : Place → (before : List (Item K V)) (item : Item K V)
      (after : List (Item K V)) → CacheState K V → CacheState K V
  rewritten InStill before item after state =
      if item.weight == 0 then with_items InStill (before ++ item ∷ after) state
      else entered item (with_items InStill (before ++ after) state)
  rewritten InHot before item after state =
      if item.weight == 0 then entered item (with_items InHot (restarted_behind before after) state)
      else with_items InHot (before ++ item ∷ after) state
  rewritten InCold before item after state =
      if item.weight == 0
      then entered item (with_items InCold (restarted_behind before after) state)
      else with_items InCold (before ++ item ∷ after) state

  -- how many items and loading entries have a key that passes the test
  abbrev pub keys_by : (K → Bool) → CacheState K V → ℕ
  keys_by test state =
      count_by (λ item. test item.key) state.hot + count_by (λ item. test item.key) state.cold
      + count_by (λ item. test item.key) state.still
      + count_by (λ entry. test entry.key) state.loading

  -- an item that stands in the ring of this queue, with a mark up to the greatest
  pub record IsRingItem (cut : ℕ) (queue : Queue) (item : Item K V) : Type 0 where
    pub weighs : 0 < item.weight
    pub of_queue : item.queue ≡ queue
    pub marked : item.mark ≤ cut

  -- an item that stands in no ring
  pub record IsStillItem (cut : ℕ) (item : Item K V) : Type 0 where
    pub weightless : item.weight ≡ 0
    pub marked : item.mark ≤ cut

  -- What holds of every state of a cache. Each key has one entry, and each ticket one, below the
  -- next one; the ghosts are within their limit; and each item stands where its weight and its
  -- queue say, with a mark up to the greatest.
  pub record IsValid (equal : K → K → Bool) (state : CacheState K V) : Type 0 where
    pub one_entry_a_key : (k : K) → keys_by (equal k) state ≤ 1
    pub one_entry_a_ticket : (n : ℕ) → count_by (λ entry. entry.ticket == n) state.loading ≤ 1
    pub tickets_given : AllByRecursion (λ entry. entry.ticket < state.next_ticket) state.loading
    pub ghosts_within : length state.ghosts ≤ state.ghost_limit
    pub in_hot : AllByRecursion (IsRingItem state.mark_cut Queue.Hot) state.hot
    pub in_cold : AllByRecursion (IsRingItem state.mark_cut Queue.Cold) state.cold
    pub in_still : AllByRecursion (IsStillItem state.mark_cut) state.still

  -- the same state, but for the order of what has none
  pub record SameButOrder (old new : CacheState K V) : Type 0 where
    pub still : IsPermutation old.still new.still
    pub loading : IsPermutation old.loading new.loading
    pub same : new ≡ record old { still = new.still; loading = new.loading }

  -- what holds of the state, up to the order of what has none
  pub record UpToOrder (P : CacheState K V → Type 0) (new : CacheState K V) : Type 0 where
    pub ordered : CacheState K V
    pub holds : P ordered
    pub same : SameButOrder ordered new
