-- Laws of existence: a look-up, a removal, and a placeholder made or met can be had in every state.
use Rattle.std.proofs.Common.{◌≡◌, ℕ, ◌==◌, ◌⊎◌, inl, inr, Bool, true, false, List, ◌∷◌, ◌++◌, Option, Some, None, ap, ◌∙◌}
use Rattle.std.proofs.lemmas.Bool.{eqb-true, eqb-false}
use Rattle.quick_cache_model.specs.declared.queue.Queue.{Queue}
use Rattle.quick_cache_model.specs.CacheState.{CacheState, Item, Place, InHot, InCold, InStill, with_items}
use Rattle.quick_cache_model.specs.Finding.{Found, FoundItem, FoundLoading, FoundGhost, FoundNothing, IsItemAt, HasNoItem, HasNoKey, Finds}
use Rattle.quick_cache_model.specs.Placeholders.{with_placeholder, MakesPlaceholder, MeetsPlaceholder}
use Rattle.quick_cache_model.specs.Lookups.{looked_up, after_hit, after_miss, LooksUp}
use Rattle.quick_cache_model.specs.Removal.{Removes}
use Rattle.quick_cache_model.proofs.EachElement.{all-weaker}
use Rattle.quick_cache_laws.proofs.CanBeMade.Finding.{Searched, is_there, is_absent, search_list, Finds-some}

-- an item for which the query stands, or that there is none
pub data ItemFound {K V : Type 0} (stands_for : K → Bool) (state : CacheState K V) : Type 0 where
  item_there : (place : Place) (before : List (Item K V)) (item : Item K V)
      (after : List (Item K V)) → IsItemAt stands_for state place before item after
      → ItemFound stands_for state
  no_item : HasNoItem stands_for state → ItemFound stands_for state

module _ {K V : Type 0} (stands_for : K → Bool) (old : CacheState K V) where
  pub find_item : ItemFound stands_for old
  find_item = go (search_list (λ item. stands_for item.key) old.hot)
      (search_list (λ item. stands_for item.key) old.cold)
      (search_list (λ item. stands_for item.key) old.still)
    where
      go : Searched (λ item. stands_for item.key) old.hot
          → Searched (λ item. stands_for item.key) old.cold
          → Searched (λ item. stands_for item.key) old.still
          → ItemFound stands_for old
      go (is_there before item after split passes) cold still =
          item_there InHot before item after (record { split = split; passes = passes })
      go (is_absent hot) (is_there before item after split passes) still =
          item_there InCold before item after (record { split = split; passes = passes })
      go (is_absent hot) (is_absent cold) (is_there before item after split passes) =
          item_there InStill before item after (record { split = split; passes = passes })
      go (is_absent hot) (is_absent cold) (is_absent still) =
          no_item (record { hot = hot; cold = cold; still = still })

  -- a look-up
  pub LooksUp-exists : {X : Type 0} (of : Item K V → X) → (shown : Option X)
      × (new : CacheState K V) × LooksUp stands_for old of shown new
  LooksUp-exists {X} of = go find_item
    where
      go : ItemFound stands_for old → (shown : Option X) × (new : CacheState K V)
          × LooksUp stands_for old of shown new
      go (item_there place before item after there) = (
        Some (of item),
        with_items place (before ++ looked_up old.mark_cut item ∷ after)
            (after_hit old),
        LooksUp.hit place before item after there,
      )
      go (no_item none) = (None, after_miss old, LooksUp.miss none)

  -- a removal
  pub Removes-exists : (hash : ℕ) → (answer : Option (K × V)) × (new : CacheState K V)
      × Removes stands_for old hash answer new
  Removes-exists hash = let some = Finds-some stands_for hash old in go some.0 some.1
    where
      go : (found : Found K V) → Finds stands_for hash old found → (answer : Option (K × V))
          × (new : CacheState K V) × Removes stands_for old hash answer new
      go (FoundItem place before item after) there = (
        Some (item.key, item.value),
        with_items place (before ++ after)
            old,
        Removes.of_item place before item after there,
      )
      go (FoundLoading before entry after) there = (
        None,
        record old { loading = before ++ after },
        Removes.of_loading before entry after
            there,
      )
      go (FoundGhost before after) there = (
        None,
        record old { ghosts = before ++ after },
        Removes.of_ghost before after there,
      )
      go FoundNothing nothing = (None, old, Removes.of_nothing nothing)

-- where a query finds no item, a placeholder is made for a key that it stands for, or one is met
pub Placeholder-exists : {K V : Type 0} (stands_for : K → Bool) (hash : ℕ) (key : K)
    (old : CacheState K V) → stands_for key ≡ true → HasNoItem stands_for old
    → ((new : CacheState K V) × MakesPlaceholder stands_for old hash key new)
    ⊎ ((ticket : ℕ) × (new : CacheState K V) × MeetsPlaceholder stands_for old ticket new)
Placeholder-exists {K} {V} stands_for hash key old stands none =
    by_loading (search_list (λ entry. stands_for entry.key) old.loading)
  where
    by_ghosts : HasNoKey stands_for old → Searched (λ ghost. ghost == hash) old.ghosts
        → ((new : CacheState K V) × MakesPlaceholder stands_for old hash key new)
        ⊎ ((ticket : ℕ) × (new : CacheState K V) × MeetsPlaceholder stands_for old ticket new)
    by_ghosts no_key (is_there before ghost after split passes) =
        inl (
          with_placeholder key Queue.Hot (after_miss (record old { ghosts = before ++ after })),
          MakesPlaceholder.on_ghost before after stands (record {
            keys = no_key;
            split = split ∙ ap (λ g. before ++ g ∷ after) (eqb-true ghost hash passes);
          }),
        )
    by_ghosts no_key (is_absent others) =
        inl (
          with_placeholder key Queue.Cold (after_miss old),
          MakesPlaceholder.on_nothing stands (record {
            keys = no_key;
            ghosts = all-weaker (λ ghost. (ghost == hash) ≡ false)
                (λ ghost. ghost ≡ hash → ⊥) (λ ghost fails. eqb-false ghost hash fails)
                old.ghosts others;
          }),
        )

    by_loading : Searched (λ entry. stands_for entry.key) old.loading
        → ((new : CacheState K V) × MakesPlaceholder stands_for old hash key new)
        ⊎ ((ticket : ℕ) × (new : CacheState K V) × MeetsPlaceholder stands_for old ticket new)
    by_loading (is_there before entry after split passes) =
        inr (
          entry.ticket,
          after_hit old,
          MeetsPlaceholder.is_there before entry after
              (record { split = split; passes = passes }),
        )
    by_loading (is_absent others) = by_ghosts (record { items = none; loading = others })
        (search_list (λ ghost. ghost == hash) old.ghosts)
