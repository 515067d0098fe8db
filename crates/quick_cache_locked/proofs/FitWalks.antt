-- What a walk shows and takes fits its key, and so does what it leaves.
use Rattle.std.proofs.Common.{◌≡◌, ℕ, Bool, true, List, [], ◌∷◌, ◌++◌, Option, Some, None, Result, Ok, Err, inl, inr, sym, subst, arith}
use Rattle.std.specs.Prelude.{IfOk, IfSome}
use Rattle.std.specs.List.{AllByRecursion, Contains}
use Rattle.std.specs.declared.num.NonZeroU32.{NonZeroU32 as Token}
use Rattle.std.proofs.lemmas.List.Elements.{Contains-append_cases}
use Rattle.quick_cache_model.specs.declared.terms.lifecycle.Lifecycle as lifecycle
use Rattle.quick_cache_model.specs.declared.refusal.Refusal.{Refusal}
use Rattle.quick_cache_model.specs.CacheState.{CacheState, Item}
use Rattle.quick_cache_model.proofs.EachElement.{all-without, all-middle}
use Rattle.quick_cache_shard.specs.Copies.{ClonesAreEqual}
use Rattle.quick_cache_shard.specs.Shard.{Shard, residents}
use Rattle.quick_cache_shard.specs.TakesWanted.{TakesNextWanted}
use Rattle.quick_cache_shard.specs.Tokens.{TakesItem}
use Rattle.quick_cache_shard.proofs.PlaceLemmas.{Contains-cons_cases}
use Rattle.quick_cache_locked.specs.Fitting.{FitsIn, AllFit, ClonesFit}
use Rattle.quick_cache_locked.specs.Walks.{ShowsNext, TakesNext}
use Rattle.quick_cache_locked.proofs.FitLemmas.{AllFit-at, AllFit-with}

module _ {K V : Type 0} (fits : K → V → Type 0) where
  -- one of a list
  contained-fits : (items : List (Item K V)) (item : Item K V)
      → AllByRecursion (FitsIn fits) items → Contains items item → FitsIn fits item
  contained-fits [] item all there = absurd (omega (arith, there.1))
  contained-fits (first ∷ rest) item all there =
      elim (Contains-cons_cases first rest item there) [
        | inl is ↦ subst (FitsIn fits) is all.0
        | inr later ↦ contained-fits rest item all.1 later
      ]

  -- one of all items
  pub resident-fits : (state : CacheState K V) (item : Item K V) → Contains (residents state) item
      → AllFit fits state → FitsIn fits item
  resident-fits state item there fit =
      elim (Contains-append_cases (state.hot ++ state.cold) state.still item there) [
        | inl of_rings ↦ elim (Contains-append_cases state.hot state.cold item of_rings) [
          | inl of_hot ↦ contained-fits state.hot item fit.hot of_hot
          | inr of_cold ↦ contained-fits state.cold item fit.cold of_cold
        ]
        | inr of_still ↦ contained-fits state.still item fit.still of_still
      ]

  module _ (old new : CacheState K V) (pair : K × V) (takes : TakesItem old pair new)
      (fit : AllFit fits old) where
    -- what is left
    pub TakesItem-fits : AllFit fits new
    TakesItem-fits = subst (λ (s : CacheState K V). AllFit fits s) (sym takes.rest)
        (AllFit-with fits takes.place (takes.before ++ takes.after) old
        (all-without (FitsIn fits) takes.before takes.item takes.after
        (subst (λ (xs : List (Item K V)). AllByRecursion (FitsIn fits) xs) takes.split
        (AllFit-at fits takes.place old fit))) fit)

    -- what is taken
    pub TakesItem-gives : fits pair.0 pair.1
    TakesItem-gives = subst (λ (p : K × V). fits p.0 p.1) (sym takes.gives)
        (all-middle (FitsIn fits) takes.before takes.item takes.after
        (subst (λ (xs : List (Item K V)). AllByRecursion (FitsIn fits) xs) takes.split
        (AllFit-at fits takes.place old fit)))

module _ {K V We B L S : Type 0} (life : lifecycle.Ghosts L K V S) (after : ℕ) where
  -- what a step shows
  pub ShowsNext-fits : (shard : Shard K V We B L) (key_clone : K → K → Type 0)
      (is_clone : V → V → Type 0) (equal : K → K → Bool)
      → ((first second : K) (value : V) → equal first second ≡ true → life.fits first value
      → life.fits second value) → (answer : Result (Option (Token × K × V)) Refusal)
      → ShowsNext shard after key_clone is_clone answer → AllFit life.fits shard.state
      → ClonesAreEqual equal key_clone → ClonesFit life.fits is_clone
      → IfOk answer (λ found. IfSome found (λ shown. life.fits shown.1 shown.2))
  ShowsNext-fits shard key_clone is_clone equal same_fits (Ok None) shows fit keys clones = tt
  ShowsNext-fits shard key_clone is_clone equal same_fits (Ok (Some shown)) shows fit keys clones =
      same_fits shows.item.key shown.1 shown.2 (keys shows.item.key shown.1 shows.key)
      (clones shows.item.key shows.item.value shown.2 shows.value
      (resident-fits life.fits shard.state shows.item shows.there fit))
  ShowsNext-fits shard key_clone is_clone equal same_fits (Err refusal) shows fit keys clones = tt

  module _ (old new : Shard K V We B L) (fit : AllFit life.fits old.state) where
    -- what a step leaves
    pub AllFit-taken : (taken : Option (Token × K × V)) → TakesNext old after taken new
        → IfSome taken (λ gone. TakesItem old.state (gone.1, gone.2) new.state)
        → AllFit life.fits new.state
    AllFit-taken None next takes =
        subst (λ (s : Shard K V We B L). AllFit life.fits s.state) (sym next.1) fit
    AllFit-taken (Some gone) next takes =
        TakesItem-fits life.fits old.state new.state (gone.1, gone.2) takes fit

    -- what it takes
    pub taken-fits : (taken : Option (Token × K × V))
        → IfSome taken (λ gone. TakesItem old.state (gone.1, gone.2) new.state)
        → IfSome taken (λ gone. life.fits gone.1 gone.2)
    taken-fits None takes = tt
    taken-fits (Some gone) takes =
        TakesItem-gives life.fits old.state new.state (gone.1, gone.2) takes fit

    -- the same where the item that goes is the next that is wanted
    pub AllFit-wanted : (answers : K → V → Bool → Type 0) (taken : Option (Token × K × V))
        → TakesNextWanted answers after old taken new → AllFit life.fits new.state
    AllFit-wanted answers None takes =
        subst (λ (s : Shard K V We B L). AllFit life.fits s.state) (sym takes.1) fit
    AllFit-wanted answers (Some gone) takes =
        TakesItem-fits life.fits old.state new.state (gone.1, gone.2) takes.takes fit

    pub wanted-fits : (answers : K → V → Bool → Type 0) (taken : Option (Token × K × V))
        → TakesNextWanted answers after old taken new
        → IfSome taken (λ gone. life.fits gone.1 gone.2)
    wanted-fits answers None takes = tt
    wanted-fits answers (Some gone) takes =
        TakesItem-gives life.fits old.state new.state (gone.1, gone.2) takes.takes fit
