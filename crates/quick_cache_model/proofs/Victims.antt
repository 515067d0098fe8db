-- A victim leads the residents and itself to the residents, or to be told to a hook.
use Rattle.std.proofs.Common.{◌≡◌, List, [], ◌∷◌, refl, sym, subst}
use Rattle.std.proofs.lemmas.List.Sorted.{IsPermutation-sym}
use Rattle.quick_cache_model.specs.declared.queue.Queue.{Queue}
use Rattle.quick_cache_model.specs.CacheState.{CacheState, Item, entered}
use Rattle.quick_cache_model.specs.Hooks.{Rules, HookCall, evicted}
use Rattle.quick_cache_model.specs.Eviction.{EvictsVictim, ghosts_with}
use Rattle.quick_cache_model.specs.Removal.{pair_of}
use Rattle.quick_cache_model.specs.Fates.{residents}
use Rattle.quick_cache_model.specs.Leads.{Leads, Tells}
use Rattle.quick_cache_model.proofs.Leads.{Leads-same, Leads-changes, Leads-leaves}
use Rattle.quick_cache_model.proofs.Residents.{residents-entered}

module _ {K V : Type 0} where
  -- the call of the queue's hook takes the pair
  pub evicted-tells : (queue : Queue) (key : K) (value : V) (pairs : List (K × V))
      → Tells ((key, value) ∷ pairs) (evicted queue key value ∷ []) pairs
  evicted-tells Queue.Hot key value pairs = Leads-leaves (key, value) (Leads-same pairs)
  evicted-tells Queue.Cold key value pairs = Leads-leaves (key, value) (Leads-same pairs)

module _ {K V : Type 0} (rules : Rules K V) where
  -- a new ghost is no pair
  ghosts-same : (queue : Queue) (item : Item K V) (state : CacheState K V)
      → residents (ghosts_with rules queue item state) ≡ residents state
  ghosts-same Queue.Hot item state = refl
  ghosts-same Queue.Cold item state = refl

  -- a victim is told to `before_evict`, and if it leaves, to the hook of its queue
  pub EvictsVictim-tells : (queue : Queue) (old : CacheState K V) (item : Item K V)
      (calls : List (HookCall K V)) (new : CacheState K V)
      → EvictsVictim rules queue old item calls new
      → Tells (pair_of item ∷ residents old) calls (residents new)
  EvictsVictim-tells queue old item _ _ (EvictsVictim.stays left light) =
      let moved = record item { value = left; weight = 0 } in
      Leads-changes item.key item.value left
      (Leads.rests ((item.key, left) ∷ residents old) (residents (entered moved old))
      (IsPermutation-sym _ _ (residents-entered moved old)))
  EvictsVictim-tells queue old item _ _ (EvictsVictim.leaves left heavy) =
      Leads-changes item.key item.value left
      (subst (λ ps. Tells ((item.key, left) ∷ residents old)
      (evicted queue item.key left ∷ []) ps) (sym (ghosts-same queue item old))
      (evicted-tells queue item.key left (residents old)))
