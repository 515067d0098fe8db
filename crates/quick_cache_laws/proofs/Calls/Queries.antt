-- Laws of queries: a query has at most one entry in a valid state, so a look at a key and a look-up
-- show the same.
use Rattle.std.proofs.Common.{◌≡◌, ◌≤◌, Bool, true, Option, arith}
use Rattle.quick_cache_model.specs.CacheState.{CacheState, Item, keys_by, IsValid}
use Rattle.quick_cache_model.specs.Finding.{Found, FoundItem, FoundLoading, FoundGhost, FoundNothing, Finds}
use Rattle.quick_cache_model.specs.Lookups.{Sees, LooksUp}
use Rattle.quick_cache_laws.specs.Laws.{IsQuery}
use Rattle.quick_cache_model.proofs.Eviction.Keys.{keys_by-none}
use Rattle.quick_cache_laws.proofs.CanBeMade.Finding.{Finds-some}
use Rattle.quick_cache_model.proofs.KeyCounts.{keys_by-fewer}
use Rattle.quick_cache_model.proofs.LookupLaws.{Sees-LooksUp}

module _ {K V : Type 0} (equal : K → K → Bool) (stands_for : K → Bool)
    (query : IsQuery equal stands_for) where
  -- one key for which the query stands has one entry, and so all of them have
  single_from_key : (key : K) (state : CacheState K V) → stands_for key ≡ true → IsValid equal state
      → keys_by stands_for state ≤ 1
  single_from_key key state stands valid =
      omega (
        arith,
        valid.one_entry_a_key key,
        keys_by-fewer stands_for (equal key)
            (λ other also. query key other stands also) state,
      )

  -- whatever the query finds, it has at most one entry
  single_from_found : (found : Found K V) (state : CacheState K V) → Finds stands_for 0 state found
      → IsValid equal state → keys_by stands_for state ≤ 1
  single_from_found (FoundItem place before item after) state there valid =
      single_from_key item.key state there.passes valid
  single_from_found (FoundLoading before entry after) state there valid =
      single_from_key entry.key state there.passes valid
  single_from_found (FoundGhost before after) state there valid =
      omega (arith, keys_by-none stands_for state there.keys)
  single_from_found FoundNothing state there valid =
      omega (arith, keys_by-none stands_for state there.keys)

  -- a query has at most one entry in a valid state
  pub keys_by-query : (state : CacheState K V) → IsValid equal state → keys_by stands_for state ≤ 1
  keys_by-query state valid = let some = Finds-some stands_for 0 state in single_from_found some.0
      state some.1 valid

  -- a look at a key and a look-up show the same
  pub Sees-LooksUp-query : {X : Type 0} (of : Item K V → X) (old new : CacheState K V)
      (seen shown : Option X) → IsValid equal old
      → Sees stands_for old of seen → LooksUp stands_for old of shown new → seen ≡ shown
  Sees-LooksUp-query of old new seen shown valid sees looks =
      Sees-LooksUp stands_for old (keys_by-query old valid) of sees looks
