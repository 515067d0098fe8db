-- Steps lead from a valid state to valid ones.
use Rattle.std.proofs.Common.{Bool, List, refl}
use Rattle.std.specs.Cmp.{IsEquivalence}
use Rattle.quick_cache_model.specs.CacheState.{CacheState, Item, Place, IsValid}
use Rattle.quick_cache_model.specs.Hooks.{Rules}
use Rattle.quick_cache_model.specs.Finding.{IsItemAt}
use Rattle.quick_cache_model.specs.Removal.{reweighed}
use Rattle.quick_cache_laws.specs.Steps.{Step, Steps}
use Rattle.quick_cache_model.proofs.Valid.States.{IsValid-in_place, SetsCapacity-valid}
use Rattle.quick_cache_model.proofs.Valid.Places.{IsInPlace-marked}
use Rattle.quick_cache_model.proofs.Valid.Writes.{Writes-valid}
use Rattle.quick_cache_model.proofs.Valid.Placeholders.{MakesPlaceholder-valid, MeetsPlaceholder-valid, FillsPlaceholder-valid}
use Rattle.quick_cache_model.proofs.Valid.Placeholders.{GivesUpPlaceholder-valid}
use Rattle.quick_cache_model.proofs.Valid.Lookups.{LooksUp-valid, Removes-valid, RemovesIf-valid, Retains-valid, Drains-valid}
use Rattle.quick_cache_model.proofs.Valid.Lookups.{ActsOnEntry-valid, reweighed-valid}
use Rattle.quick_cache_model.proofs.Valid.Orders.{SameButOrder-valid}

module _ {K V : Type 0} (equal : K → K → Bool) (laws : IsEquivalence equal)
    (rules : Rules K V) where
  -- an item that is there, weighed anew
  pub reweighed_there-valid : (stands_for : K → Bool) (place : Place) (before : List (Item K V))
      (item : Item K V) (after : List (Item K V)) (left : V) (old : CacheState K V)
      → IsItemAt stands_for old place before item after → IsValid equal old
      → IsValid equal (reweighed rules place before item after left old)
  reweighed_there-valid stands_for place before item after left old there valid =
      reweighed-valid equal laws rules place before item item after left old there.split refl refl
      (IsInPlace-marked place before item after old there.split
      (IsValid-in_place equal old valid)) valid

  -- one step
  pub Step-valid : (old new : CacheState K V) → Step equal rules old new → IsValid equal old
      → IsValid equal new
  Step-valid old _ (Step.writes key strategy value calls answer new writes) =
      Writes-valid equal laws rules key strategy old value new calls answer writes
  Step-valid old _ (Step.makes stands_for hash key new exact makes) =
      MakesPlaceholder-valid equal laws stands_for hash key old new exact makes
  Step-valid old _ (Step.meets stands_for ticket new meets) =
      MeetsPlaceholder-valid equal laws stands_for ticket old new meets
  Step-valid old _ (Step.fills ticket marked value calls answer new filled) =
      FillsPlaceholder-valid equal laws ticket rules marked old new value calls answer filled
  Step-valid old _ (Step.gives_up ticket new gives_up) =
      GivesUpPlaceholder-valid equal laws ticket old new gives_up
  Step-valid old _ (Step.looks_up stands_for shown new looks) =
      LooksUp-valid equal stands_for (λ item. item.value) old new shown looks
  Step-valid old _ (Step.removes stands_for hash answer new removes) =
      Removes-valid equal stands_for hash old new answer removes
  Step-valid old _ (Step.removes_if stands_for passes answer new removes) =
      RemovesIf-valid equal stands_for passes old new answer removes
  Step-valid old _ (Step.retains keeps new retains) = Retains-valid equal keeps old new retains
  Step-valid old _ (Step.drains pairs new drains) = λ _. Drains-valid equal old new pairs drains
  Step-valid old _ (Step.acts stands_for item left choice outcome new acts) =
      ActsOnEntry-valid equal laws rules stands_for old item left choice outcome new acts
  Step-valid old _ (Step.reweighs stands_for place before item after left there) =
      reweighed_there-valid stands_for place before item after left old there
  Step-valid old _ (Step.sets_capacity capacity calls new set) =
      SetsCapacity-valid equal rules capacity old new calls set
  Step-valid old _ (Step.orders new order) = SameButOrder-valid equal old new order

  -- any list of steps
  pub Steps-valid : (old new : CacheState K V) → Steps equal rules old new → IsValid equal old
      → IsValid equal new
  Steps-valid _ _ (Steps.done state) valid = valid
  Steps-valid _ _ (Steps.goes_on old mid new step steps) valid =
      Steps-valid mid new steps (Step-valid old mid step valid)
