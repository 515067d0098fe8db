-- How many residents have a key that passes a test.
use Rattle.std.proofs.Common.{◌≡◌, ◌+◌, Bool, List, [], ◌∷◌, ◌++◌, map, Option, refl, arith}
use Rattle.std.specs.Prelude.{count_by}
use Rattle.quick_cache_model.specs.CacheState.{CacheState, Item, IsValid, keys_by}
use Rattle.quick_cache_model.specs.Finding.{HasNoItem}
use Rattle.quick_cache_model.specs.Removal.{pair_of}
use Rattle.quick_cache_model.proofs.KeyCounts.{keys, keys-cons, keys-append, keys-none}
use Rattle.quick_cache_model.specs.Fates.{residents}
use Rattle.quick_cache_runs.specs.Conservation.{IsLastOf}
use Rattle.quick_cache_runs.proofs.Values.{counted, counted-cons, last_found}

module _ {K : Type 0} (test : K → Bool) {V : Type 0} where
  -- pairs have the keys of their items
  counted-pairs : (items : List (Item K V)) → counted test (map pair_of items) ≡ keys test items
  counted-pairs [] = refl
  counted-pairs (item ∷ items) =
      omega (
        arith,
        counted-cons test (pair_of item) (map pair_of items),
        keys-cons test item items,
        counted-pairs items,
      )

  -- the residents of a key and what is being loaded under it
  pub counted-residents : (state : CacheState K V)
      → counted test (residents state) + count_by (λ entry. test entry.key) state.loading
      ≡ keys_by test state
  counted-residents state =
      omega (
        arith,
        counted-pairs (state.hot ++ (state.cold ++ state.still)),
        keys-append test state.hot (state.cold ++ state.still),
        keys-append test state.cold state.still,
      )

  -- no item has such a key
  pub counted-absent : (state : CacheState K V) → HasNoItem test state
      → counted test (residents state) ≡ 0
  counted-absent state none =
      omega (
        arith,
        counted-pairs (state.hot ++ (state.cold ++ state.still)),
        keys-append test state.hot (state.cold ++ state.still),
        keys-append test state.cold state.still,
        keys-none test state.hot none.hot,
        keys-none test state.cold none.cold,
        keys-none test state.still none.still,
      )

module _ {K V : Type 0} (equal : K → K → Bool) where
  -- in a valid state each key has a value, or none
  pub value_of_key : (state : CacheState K V) → IsValid equal state → (key : K)
      → (value : Option V) × IsLastOf (equal key) value (residents state)
  value_of_key state valid key =
      last_found (equal key) (residents state)
      (omega (arith, counted-residents (equal key) state, valid.one_entry_a_key key))
