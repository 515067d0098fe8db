-- Laws of finding: a query always finds something, be it nothing.
use Rattle.std.proofs.Common.{◌≡◌, ◌≢◌, ℕ, ◌==◌, Bool, true, false, List, [], ◌∷◌, ◌++◌, refl, ap, ◌∙◌}
use Rattle.std.proofs.lemmas.Bool.{eqb-true, eqb-false}
use Rattle.std.specs.List.{AllByRecursion}
use Rattle.quick_cache_model.specs.CacheState.{CacheState, InHot, InCold, InStill}
use Rattle.quick_cache_model.specs.Finding.{Found, FoundItem, FoundLoading, FoundGhost, FoundNothing, HasNoItem, HasNoKey, Finds}
use Rattle.quick_cache_model.proofs.EachElement.{all-weaker}

-- an element that passes, with what stands before and behind it, or that none passes
pub data Searched {X : Type 0} (test : X → Bool) (xs : List X) : Type 0 where
  is_there : (before : List X) (x : X) (after : List X) → xs ≡ before ++ x ∷ after → test x ≡ true
      → Searched test xs
  is_absent : AllByRecursion (λ x. test x ≡ false) xs → Searched test xs

module _ {X : Type 0} (test : X → Bool) where
  -- what a search of the tail says of the whole list, whose head fails
  searched_behind : (x : X) (xs : List X) → test x ≡ false → Searched test xs
      → Searched test (x ∷ xs)
  searched_behind x xs fails (is_there before y after split passes) =
      is_there (x ∷ before) y after (ap (λ l. x ∷ l) split) passes
  searched_behind x xs fails (is_absent none) = is_absent (fails, none)

  -- what a search of the tail says of the whole list, by the test of its head
  searched_head : (x : X) (xs : List X) (passes : Bool) → test x ≡ passes → Searched test xs
      → Searched test (x ∷ xs)
  searched_head x xs true is rest = is_there [] x xs refl is
  searched_head x xs false is rest = searched_behind x xs is rest

  -- in each list an element passes, or none does
  pub search_list : (xs : List X) → Searched test xs
  search_list [] = is_absent tt
  search_list (x ∷ xs) = searched_head x xs (test x) refl (search_list xs)

module _ {K V : Type 0} (stands_for : K → Bool) (hash : ℕ) (state : CacheState K V) where
  abbrev FindsSome : Type 0
  FindsSome = (found : Found K V) × Finds stands_for hash state found

  -- where no key is found, a ghost is or none
  in_ghosts : HasNoKey stands_for state → Searched (λ ghost. ghost == hash) state.ghosts → FindsSome
  in_ghosts none (is_there before ghost after split passes) = (
    FoundGhost before after,
    record {
      keys = none;
      split = split ∙ ap (λ g. before ++ g ∷ after) (eqb-true ghost hash passes);
    },
  )
  in_ghosts none (is_absent others) = (
    FoundNothing,
    record {
      keys = none;
      ghosts =
          all-weaker (λ ghost. (ghost == hash) ≡ false) (λ ghost. ghost ≢ hash)
          (λ ghost fails. eqb-false ghost hash fails) state.ghosts others;
    },
  )

  -- where no item is found, a placeholder is or none
  in_loading : HasNoItem stands_for state → Searched (λ entry. stands_for entry.key) state.loading
      → FindsSome
  in_loading none (is_there before entry after split passes) =
      (FoundLoading before entry after, record { split = split; passes = passes })
  in_loading none (is_absent others) = in_ghosts (record { items = none; loading = others })
      (search_list (λ ghost. ghost == hash) state.ghosts)

  -- an item of one of the three places is found, or none
  in_items : Searched (λ item. stands_for item.key) state.hot
      → Searched (λ item. stands_for item.key) state.cold
      → Searched (λ item. stands_for item.key) state.still → FindsSome
  in_items (is_there before item after split passes) cold still =
      (FoundItem InHot before item after, record { split = split; passes = passes })
  in_items (is_absent hot) (is_there before item after split passes) still =
      (FoundItem InCold before item after, record { split = split; passes = passes })
  in_items (is_absent hot) (is_absent cold) (is_there before item after split passes) =
      (FoundItem InStill before item after, record { split = split; passes = passes })
  in_items (is_absent hot) (is_absent cold) (is_absent still) =
      in_loading (record { hot = hot; cold = cold; still = still })
      (search_list (λ entry. stands_for entry.key) state.loading)

  -- whatever the query, its hash and the state: an item, a placeholder, a ghost or nothing is found
  pub Finds-some : (found : Found K V) × Finds stands_for hash state found
  Finds-some =
      in_items (search_list (λ item. stands_for item.key) state.hot)
      (search_list (λ item. stands_for item.key) state.cold)
      (search_list (λ item. stands_for item.key) state.still)
