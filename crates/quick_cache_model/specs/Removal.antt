-- Taking out, and weighing anew. No hook is called.
use Rattle.std.specs.Prelude.{◌≡◌, ℕ, Bool, true, false, List, [], ◌++◌, Option, Some, None, map}
use Rattle.std.specs.List.{filter}
use Rattle.std.specs.List.Sorted.{IsPermutation}
use Rattle.quick_cache_model.specs.CacheState.{CacheState, Item, LoadingEntry, Place, with_items, rewritten}
use Rattle.quick_cache_model.specs.Hooks.{Rules}
use Rattle.quick_cache_model.specs.Finding.{IsItemAt, IsLoadingAt, IsGhostAt, HasNoItem, HasNothing}

module _ {K V : Type 0} (stands_for : K → Bool) (old : CacheState K V) where
  -- A removal, with its answer: an item is given out, a placeholder or a ghost of the hash goes and
  -- gives nothing. The order of the rest is kept.
  pub data Removes (hash : ℕ) : Option (K × V) → CacheState K V → Type 0 where
    of_item : (place : Place) (before : List (Item K V)) (item : Item K V) (after : List (Item K V))
        → IsItemAt stands_for old place before item after
        → Removes hash (Some (item.key, item.value)) (with_items place (before ++ after) old)
    of_loading : (before : List (LoadingEntry K)) (entry : LoadingEntry K)
        (after : List (LoadingEntry K))
        → IsLoadingAt stands_for old before entry after
        → Removes hash None (record old { loading = before ++ after })
    of_ghost : (before after : List ℕ) → IsGhostAt stands_for hash old before after
        → Removes hash None (record old { ghosts = before ++ after })
    of_nothing : HasNothing stands_for hash old → Removes hash None old

  -- a removal by a test: an item goes where its value passes, and nothing else ever does
  pub data RemovesIf (passes : V → Bool) : Option (K × V) → CacheState K V → Type 0 where
    goes : (place : Place) (before : List (Item K V)) (item : Item K V) (after : List (Item K V))
        → IsItemAt stands_for old place before item after → passes item.value ≡ true
        → RemovesIf passes (Some (item.key, item.value)) (with_items place (before ++ after) old)
    stays : (place : Place) (before : List (Item K V)) (item : Item K V) (after : List (Item K V))
        → IsItemAt stands_for old place before item after → passes item.value ≡ false
        → RemovesIf passes None old
    absent : HasNoItem stands_for old → RemovesIf passes None old

module _ {K V : Type 0} where
  -- the items whose pair passes the test are kept, in their order
  abbrev pub retained : (K → V → Bool) → List (Item K V) → List (Item K V)
  retained keeps items = filter (λ item. keeps item.key item.value) items

  abbrev pub Retains : (K → V → Bool) → CacheState K V → CacheState K V → Type 0
  Retains keeps old new = new ≡ record old {
    hot = retained keeps old.hot;
    cold = retained keeps old.cold;
    still = retained keeps old.still;
  }

  -- items, placeholders and ghosts are gone; the sizes, the counts and the next ticket stay
  abbrev pub cleared : CacheState K V → CacheState K V
  cleared state = record state { hot = []; cold = []; still = []; ghosts = []; loading = [] }

  -- the pair of an item
  abbrev pub pair_of : Item K V → K × V
  pair_of item = (item.key, item.value)

  -- a drain gives each pair once, in some order, and leaves the cache cleared
  abbrev pub Drains : CacheState K V → List (K × V) → CacheState K V → Type 0
  Drains old pairs new =
      IsPermutation (map pair_of (old.hot ++ old.cold ++ old.still)) pairs × (new ≡ cleared old)

module _ {K V : Type 0} (rules : Rules K V) where
  -- the item with another value, weighed anew
  abbrev pub weighed : Item K V → V → Item K V
  weighed item value = record item { value = value; weight = rules.weight item.key value }

  -- The item at a place has another value, and its accounted weight is the weigher's. Nothing is
  -- evicted.
  abbrev pub reweighed : Place → (before : List (Item K V)) (item : Item K V)
      (after : List (Item K V)) → V → CacheState K V → CacheState K V
  reweighed place before item after value state =
      rewritten place before (weighed item value) after state
