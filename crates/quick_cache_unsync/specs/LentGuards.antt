-- A reference of either kind, or a guard: what it holds, and how it came about.
use Rattle.std.specs.Prelude.{◌≡◌, ℕ, Bool, true, Result, Ok, Err}
use Rattle.std.specs.Borrow.{GName}
use Rattle.quick_cache_model.specs.CacheState.{CacheState}
use Rattle.quick_cache_shard.specs.References.{NotesLookUp}
use Rattle.quick_cache_shard.specs.Shard.{Shard}
use Rattle.quick_cache_unsync.specs.Loads.{Takes}
use Rattle.quick_cache_unsync.specs.declared.loading.guard.Guard.{Guard}

module _ {R K V We B L A H S : Type 0} where
  -- the borrow that a reference or a guard holds
  abbrev pub lender_of : (R → GName) → Result R (Guard K V We B L A H S) → GName
  lender_of lender (Ok reference) = lender reference
  lender_of lender (Err guard) = guard.cache.ghost_name

  -- its cache
  abbrev pub lent_or_guarded : (R → Shard K V We B L) → Result R (Guard K V We B L A H S)
      → Shard K V We B L
  lent_or_guarded lent (Ok reference) = lent reference
  lent_or_guarded lent (Err guard) = guard.cache.now

  -- an item was found under the query and looked up, or a placeholder was taken
  abbrev pub LendsOrTakes : {Q : Type 0} → (lent : R → Shard K V We B L) → (query_of : R → Q)
      → (stands_for : K → Bool) → (gives : K → Type 0) → (hash : ℕ) → (wanted : Q)
      → (old : CacheState K V) → Result R (Guard K V We B L A H S) → Type 0
  LendsOrTakes lent query_of stands_for gives hash wanted old (Ok reference) =
      (query_of reference ≡ wanted) × NotesLookUp stands_for old true (lent reference).state
  LendsOrTakes lent query_of stands_for gives hash wanted old (Err guard) =
      Takes stands_for gives hash old guard.ticket guard.cache.now.state
