-- Steps keep a cache sized.
use Rattle.std.proofs.Common.{Bool}
use Rattle.quick_cache_model.specs.CacheState.{CacheState}
use Rattle.quick_cache_model.specs.Hooks.{Rules}
use Rattle.quick_cache_model.specs.Sizes.{IsSized}
use Rattle.quick_cache_model.proofs.KeptSizes.{IsSized-kept, Writes-sizes, MakesPlaceholder-sizes, MeetsPlaceholder-sizes}
use Rattle.quick_cache_model.proofs.KeptSizes.{FillsPlaceholder-sizes, GivesUpPlaceholder-sizes, LooksUp-sizes, Removes-sizes}
use Rattle.quick_cache_model.proofs.KeptSizes.{RemovesIf-sizes, Retains-sizes, Drains-sizes, ActsOnEntry-sizes, reweighed-sizes}
use Rattle.quick_cache_model.proofs.KeptSizes.{SetsCapacity-sized, SameButOrder-sizes}
use Rattle.quick_cache_laws.specs.Steps.{Step, Steps}

module _ {K V : Type 0} (equal : K → K → Bool) (rules : Rules K V) where
  -- one step
  pub Step-sized : (old new : CacheState K V) → Step equal rules old new → IsSized old → IsSized new
  Step-sized old _ (Step.writes key strategy value calls answer new writes) =
      IsSized-kept old new (Writes-sizes rules (equal key) key strategy old value calls answer new
      writes)
  Step-sized old _ (Step.makes stands_for hash key new exact makes) =
      IsSized-kept old new (MakesPlaceholder-sizes stands_for hash key old new makes)
  Step-sized old _ (Step.meets stands_for ticket new meets) =
      IsSized-kept old new (MeetsPlaceholder-sizes stands_for ticket old new meets)
  Step-sized old _ (Step.fills ticket marked value calls answer new filled) =
      IsSized-kept old new (FillsPlaceholder-sizes rules ticket marked old value calls answer new
      filled)
  Step-sized old _ (Step.gives_up ticket new gives_up) =
      IsSized-kept old new (GivesUpPlaceholder-sizes ticket old new gives_up)
  Step-sized old _ (Step.looks_up stands_for shown new looks) =
      IsSized-kept old new (LooksUp-sizes stands_for (λ item. item.value) old new shown looks)
  Step-sized old _ (Step.removes stands_for hash answer new removes) =
      IsSized-kept old new (Removes-sizes stands_for hash old new answer removes)
  Step-sized old _ (Step.removes_if stands_for passes answer new removes) =
      IsSized-kept old new (RemovesIf-sizes stands_for passes old new answer removes)
  Step-sized old _ (Step.retains keeps new retains) =
      IsSized-kept old new (Retains-sizes keeps old new retains)
  Step-sized old _ (Step.drains pairs new drains) =
      IsSized-kept old new (Drains-sizes old new pairs drains)
  Step-sized old _ (Step.acts stands_for item left choice outcome new acts) =
      IsSized-kept old new (ActsOnEntry-sizes rules stands_for old item left choice outcome new
      acts)
  Step-sized old _ (Step.reweighs stands_for place before item after left there) =
      IsSized-kept old _ (reweighed-sizes rules place before item after left old)
  Step-sized old _ (Step.sets_capacity capacity calls new set) =
      SetsCapacity-sized rules capacity old new calls set
  Step-sized old _ (Step.orders new order) =
      IsSized-kept old new (SameButOrder-sizes old new order)

  -- any list of steps
  pub Steps-sized : (old new : CacheState K V) → Steps equal rules old new → IsSized old
      → IsSized new
  Steps-sized _ _ (Steps.done state) sized = sized
  Steps-sized _ _ (Steps.goes_on old mid new step steps) sized =
      Steps-sized mid new steps (Step-sized old mid step sized)
