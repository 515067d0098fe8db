-- An item that is known to be there.
use Rattle.std.proofs.Common.{◌≡◌, ℕ, ◌<◌, ◌≤◌, Bool, true, List, ◌∷◌, ◌++◌, Some, refl, ap, ◌∙◌, arith}
use Rattle.quick_cache_model.specs.CacheState.{CacheState, Item, Place, InHot, InCold, InStill, UpToOrder, items_at, with_items, keys_by}
use Rattle.quick_cache_model.specs.Lookups.{LooksUp, looked_up, after_hit}
use Rattle.quick_cache_model.proofs.LookupLaws.{same_everywhere}
use Rattle.quick_cache_store.specs.Lists.{AreApart, FindsItem, IsItemOf}
use Rattle.quick_cache_policy.specs.declared.contents.Contents.{Contents}
use Rattle.quick_cache_policy.specs.Contents.{IsSound, state_of}
use Rattle.quick_cache_policy.specs.References.{count_under, IsValueUnder}
use Rattle.quick_cache_policy.proofs.ReferenceLemmas.{count_under-some, count_under-reordered, keys_by-query, found-there, found-value}

module _ {K V : Type 0} (stands_for : K → Bool) where
  -- an item stands where it was put
  items_at-with : (place : Place) (items : List (Item K V)) (state : CacheState K V)
      → items_at place (with_items place items state) ≡ items
  items_at-with InHot items state = refl
  items_at-with InCold items state = refl
  items_at-with InStill items state = refl

  looked_up-there : {X : Type 0} (of : Item K V → X) (shown : X) (old new : CacheState K V)
      → LooksUp stands_for old of (Some shown) new → 0 < count_under stands_for new
  looked_up-there of _ old _ (LooksUp.hit place before item after at) =
      count_under-some stands_for place before (looked_up old.mark_cut item) after
      (with_items place (before ++ looked_up old.mark_cut item ∷ after) (after_hit old))
      (record { split = items_at-with place _ (after_hit old); passes = at.passes })

  -- what was looked up and found is there
  pub LooksUp-there : {X : Type 0} (of : Item K V → X) (shown : X) (old new : CacheState K V)
      → UpToOrder (LooksUp stands_for old of (Some shown)) new → 0 < count_under stands_for new
  LooksUp-there of shown old new looks = omega (
    arith,
    looked_up-there of shown old looks.ordered looks.holds,
    count_under-reordered stands_for looks.ordered new looks.same,
  )

module _ {K V P W A T : Type 0} (ticket_of : P → ℕ) (contents : Contents K V W A T P)
    (apart : AreApart contents.lists) (token : ℕ) (stands_for : K → Bool) (hash : ℕ)
    (found : FindsItem stands_for hash contents.lists token) (equal : K → K → Bool)
    (same : (first second : K) → stands_for first ≡ true → stands_for second ≡ true
    → equal first second ≡ true) (hashed : K → ℕ) (sound : IsSound ticket_of equal hashed contents)
  where
    -- it is the only one under the query
    pub found-single : keys_by stands_for (state_of ticket_of contents) ≤ 1
    found-single = keys_by-query stands_for equal same (state_of ticket_of contents) sound.valid
        found.item.key found.passes

    -- the value of the item of the token is the one under the query
    pub found-shown : (item : Item K V) → IsItemOf contents.lists token item → (value : V)
        → value ≡ item.value → IsValueUnder stands_for (state_of ticket_of contents) value
    found-shown item is value shown = λ place before other after at.
        shown ∙ ap (λ (i : Item K V). i.value)
        (found-value ticket_of contents apart token stands_for hash found item is
        ∙ same_everywhere stands_for (state_of ticket_of contents) found-single _ place _ found.item _
        before other after
        (found-there ticket_of contents apart token stands_for hash found) at)
