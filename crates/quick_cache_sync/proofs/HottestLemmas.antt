-- What is shown of the items, of the hottest or of all, fits.
use Rattle.std.proofs.Common.{◌≡◌, ℕ, Bool, true, List, [], ◌∷◌, ◌++◌, map, take, drop, nat_eq, sym, subst}
use Rattle.std.specs.List.{AllByRecursion, AllZip, filter}
use Rattle.std.proofs.lemmas.List.{take-append-drop}
use Rattle.quick_cache_model.specs.declared.queue.Queue.{Queue}
use Rattle.quick_cache_model.specs.declared.terms.lifecycle.Lifecycle as lifecycle
use Rattle.quick_cache_model.specs.CacheState.{CacheState, Item}
use Rattle.quick_cache_model.proofs.EachElement.{all-append, all-left, all-filter, all-permutation}
use Rattle.quick_cache_shard.specs.Copies.{ClonesAreEqual}
use Rattle.quick_cache_shard.specs.Saved.{is_weightless, saved_of}
use Rattle.quick_cache_shard.specs.Shard.{residents, shown}
use Rattle.quick_cache_locked.specs.declared.heated.Heated.{Heated}
use Rattle.quick_cache_locked.specs.Fitting.{AllFit, ClonesFit, FitsIn}
use Rattle.quick_cache_locked.specs.Hottest.{IsHeatedClone, by_heat, by_mark, heated, with_mark}
use Rattle.quick_cache_locked.specs.Saving.{ShowsSaved, heated_saved}
use Rattle.quick_cache_sync.specs.Hottest.{ShowsHeat, ShowsHottest}
use Rattle.quick_cache_sync.specs.InTurn.{FitsHeated, ShowInTurn}

-- of what holds in a list the first so many are
all-take : {X : Type 0} (P : X → Type 0) (n : ℕ) (xs : List X) → AllByRecursion P xs
    → AllByRecursion P (take n xs)
all-take P n xs all = all-left P (take n xs) (drop n xs)
    (subst (λ list. AllByRecursion P list) (sym (take-append-drop n xs)) all)

-- and so it is of what is made of each
all-image : {X Y : Type 0} (P : X → Type 0) (Q : Y → Type 0) (f : X → Y)
    → ((x : X) → P x → Q (f x)) → (xs : List X) → AllByRecursion P xs → AllByRecursion Q (map f xs)
all-image P Q f by [] all = tt
all-image P Q f by (x ∷ xs) all = (by x all.0, all-image P Q f by xs all.1)

module _ {K V L S : Type 0} (life : lifecycle.Ghosts L K V S) where
  -- what a ring shows fits
  with_mark-fits : (queue : Queue) (mark : ℕ) (ring : List (Item K V))
      → AllByRecursion (FitsIn life.fits) ring
      → AllByRecursion (FitsHeated life) (with_mark queue mark (map shown ring))
  with_mark-fits queue mark ring fit =
      let pair_fits : K × V × ℕ → Type 0 = λ item. life.fits item.0 item.1 in
      all-image pair_fits (FitsHeated life) (heated queue) (λ item one. one)
      (filter (λ item. nat_eq item.2 mark) (map shown ring))
      (all-filter pair_fits (λ item. nat_eq item.2 mark) (map shown ring)
      (all-image (FitsIn life.fits) pair_fits shown (λ item one. one) ring fit))

  by_mark-fits : (queue : Queue) (ring : List (Item K V)) → AllByRecursion (FitsIn life.fits) ring
      → AllByRecursion (FitsHeated life) (by_mark queue (map shown ring))
  by_mark-fits queue ring fit =
      let a = with_mark queue 3 (map shown ring) in
      let b = with_mark queue 2 (map shown ring) in
      let c = with_mark queue 1 (map shown ring) in
      let d = with_mark queue 0 (map shown ring) in
      all-append (FitsHeated life) (a ++ b ++ c) d
      (all-append (FitsHeated life) (a ++ b) c
      (all-append (FitsHeated life) a b (with_mark-fits queue 3 ring fit)
      (with_mark-fits queue 2 ring fit)) (with_mark-fits queue 1 ring fit))
      (with_mark-fits queue 0 ring fit)

  by_heat-fits : (state : CacheState K V) → AllFit life.fits state
      → AllByRecursion (FitsHeated life) (by_heat state)
  by_heat-fits state fit = all-append (FitsHeated life) (by_mark Queue.Hot (map shown state.hot))
      (by_mark Queue.Cold (map shown state.cold)) (by_mark-fits Queue.Hot state.hot fit.hot)
      (by_mark-fits Queue.Cold state.cold fit.cold)

  module _ (equal : K → K → Bool) (key_clone : K → K → Type 0) (is_clone : V → V → Type 0)
      (same_fits : (first second : K) (value : V) → equal first second ≡ true
      → life.fits first value → life.fits second value)
      (keys : ClonesAreEqual equal key_clone) (clones : ClonesFit life.fits is_clone) where
    -- and so do clones of it
    clones-fit : (items part : List (Heated K V)) → AllZip (IsHeatedClone key_clone is_clone) items part
        → AllByRecursion (FitsHeated life) items → AllByRecursion (FitsHeated life) part
    clones-fit [] [] zip fit = tt
    clones-fit [] (clone ∷ part) zip fit = absurd zip
    clones-fit (item ∷ items) [] zip fit = absurd zip
    clones-fit (item ∷ items) (clone ∷ part) zip fit = (
      same_fits item.key clone.key clone.value (keys item.key clone.key zip.0.key)
          (clones item.key item.value clone.value zip.0.value fit.0),
      clones-fit items part zip.1 fit.1,
    )

    module _ (We B : Type 0) (shows : CacheState K V → List (Heated K V) → Type 0)
        (fit : (state : CacheState K V) (part : List (Heated K V)) → AllFit life.fits state
        → shows state part → AllByRecursion (FitsHeated life) part) where
      -- of each shard
      pub ShowInTurn-fits : (shards : ℕ) (all : List (Heated K V))
          → ShowInTurn life equal We B shows shards all → AllByRecursion (FitsHeated life) all
      ShowInTurn-fits _ _ ShowInTurn.none = tt
      ShowInTurn-fits _ _ (ShowInTurn.one_more shards all part in_turn some) =
          all-append (FitsHeated life) all part (ShowInTurn-fits shards all in_turn)
          (fit some.shard.state part some.kept.fit some.holds)

    -- the hottest of all
    pub ShowsHottest-fits : (We B : Type 0) (count shards : ℕ) (given : List (Heated K V))
        → ShowsHottest life equal key_clone is_clone We B count shards given
        → AllByRecursion (FitsHeated life) given
    ShowsHottest-fits We B count shards given shows =
        subst (λ list. AllByRecursion (FitsHeated life) list) (sym shows.first)
        (all-take (FitsHeated life) count shows.sorted
        (all-permutation (FitsHeated life) shows.shown shows.sorted shows.same
        (ShowInTurn-fits We B (ShowsHeat key_clone is_clone count)
        (λ state part kept clones. clones-fit (take count (by_heat state)) part clones
        (all-take (FitsHeated life) count (by_heat state) (by_heat-fits state kept)))
        shards shows.shown shows.in_turn)))

    -- all that is saved
    saved-fits : (state : CacheState K V) (part : List (Heated K V)) → AllFit life.fits state
        → ShowsSaved key_clone is_clone state part → AllByRecursion (FitsHeated life) part
    saved-fits state part kept shows =
        let fits : Item K V → Type 0 = FitsIn life.fits in
        let all = shows.all.all in
        let rings = all-append fits state.hot state.cold kept.hot kept.cold in
        let weightless = filter is_weightless all in
        let pair_fits : K × V × Queue × ℕ → Type 0 = λ item. life.fits item.0 item.1 in
        clones-fit (map heated_saved shows.saved) part shows.clones
        (all-image pair_fits (FitsHeated life) heated_saved (λ item one. one) shows.saved
        (subst (λ list. AllByRecursion pair_fits list) (sym shows.all.is)
        (all-image fits pair_fits saved_of (λ item one. one)
        (state.hot ++ state.cold ++ weightless)
        (all-append fits (state.hot ++ state.cold) weightless rings
        (all-filter fits is_weightless all
        (all-permutation fits (residents state) all shows.all.order
        (all-append fits (state.hot ++ state.cold) state.still rings kept.still)))))))

    pub ShowsSaved-fits : (We B : Type 0) (shards : ℕ) (given : List (Heated K V))
        → ShowInTurn life equal We B (ShowsSaved key_clone is_clone) shards given
        → AllByRecursion (FitsHeated life) given
    ShowsSaved-fits We B shards given in_turn =
        ShowInTurn-fits We B (ShowsSaved key_clone is_clone) saved-fits shards given in_turn
