-- A ticket that left the placeholders never returns.
use Rattle.std.proofs.Common.{ℕ, ◌<◌, Bool, List, refl, ap, subst, sym, arith}
use Rattle.std.specs.List.{AllByRecursion}
use Rattle.quick_cache_model.specs.CacheState.{CacheState, LoadingEntry, IsValid}
use Rattle.quick_cache_model.specs.Hooks.{Rules}
use Rattle.quick_cache_model.specs.Placeholders.{IsLoadingTicket, HasNoTicket}
use Rattle.quick_cache_laws.specs.Steps.{Step, Steps}
use Rattle.quick_cache_model.proofs.EachElement.{all-middle}
use Rattle.quick_cache_laws.proofs.Steps.KeptTickets.{KeepsTickets, kept-same, kept-trans, Writes-tickets, MakesPlaceholder-tickets}
use Rattle.quick_cache_laws.proofs.Steps.KeptTickets.{MeetsPlaceholder-tickets, FillsPlaceholder-tickets, GivesUpPlaceholder-tickets}
use Rattle.quick_cache_laws.proofs.Steps.KeptTickets.{LooksUp-tickets, Removes-tickets, RemovesIf-tickets, ActsOnEntry-tickets}
use Rattle.quick_cache_laws.proofs.Steps.KeptTickets.{reweighed-tickets, SetsCapacity-tickets, SameButOrder-tickets}

module _ {K V : Type 0} (equal : K → K → Bool) (rules : Rules K V) where
  -- one step
  pub Step-tickets : (old new : CacheState K V) → Step equal rules old new → KeepsTickets old new
  Step-tickets old _ (Step.writes key strategy value calls answer new writes) =
      Writes-tickets rules (equal key) key strategy old value calls answer new writes
  Step-tickets old _ (Step.makes stands_for hash key new exact makes) =
      MakesPlaceholder-tickets stands_for hash key old new makes
  Step-tickets old _ (Step.meets stands_for ticket new meets) =
      MeetsPlaceholder-tickets stands_for ticket old new meets
  Step-tickets old _ (Step.fills ticket marked value calls answer new filled) =
      FillsPlaceholder-tickets rules ticket marked old value calls answer new filled
  Step-tickets old _ (Step.gives_up ticket new gives_up) =
      GivesUpPlaceholder-tickets ticket old new gives_up
  Step-tickets old _ (Step.looks_up stands_for shown new looks) =
      LooksUp-tickets stands_for (λ item. item.value) old new shown looks
  Step-tickets old _ (Step.removes stands_for hash answer new removes) =
      Removes-tickets stands_for hash old new answer removes
  Step-tickets old _ (Step.removes_if stands_for passes answer new removes) =
      RemovesIf-tickets stands_for passes old new answer removes
  Step-tickets old _ (Step.retains keeps new retains) =
      kept-same old new (ap (λ (s : CacheState K V). s.loading) retains)
      (ap (λ (s : CacheState K V). s.next_ticket) retains)
  Step-tickets old _ (Step.drains pairs new drains) = record {
    grows = omega (arith, ap (λ (s : CacheState K V). s.next_ticket) drains.1);
    gone = λ ticket given none. subst (λ (s : CacheState K V). HasNoTicket ticket s)
        (sym drains.1) tt;
  }
  Step-tickets old _ (Step.acts stands_for item left choice outcome new acts) =
      ActsOnEntry-tickets rules stands_for old item left choice outcome new acts
  Step-tickets old _ (Step.reweighs stands_for place before item after left there) =
      reweighed-tickets rules place before item after left old
  Step-tickets old _ (Step.sets_capacity capacity calls new set) =
      SetsCapacity-tickets rules capacity old new calls set
  Step-tickets old _ (Step.orders new order) = SameButOrder-tickets old new order

  -- any list of steps
  pub Steps-tickets : (old new : CacheState K V) → Steps equal rules old new → KeepsTickets old new
  Steps-tickets _ _ (Steps.done state) = kept-same state state refl refl
  Steps-tickets _ _ (Steps.goes_on old mid new step steps) =
      kept-trans old mid new (Step-tickets old mid step) (Steps-tickets mid new steps)

  -- a placeholder's ticket that is gone does not return
  pub Steps-gone : (ticket : ℕ) (old mid new : CacheState K V)
      (before : List (LoadingEntry K)) (entry : LoadingEntry K) (after : List (LoadingEntry K))
      → IsValid equal old → IsLoadingTicket ticket old before entry after
      → Steps equal rules old mid → HasNoTicket ticket mid
      → Steps equal rules mid new → HasNoTicket ticket new
  Steps-gone ticket old mid new before entry after valid there first none second =
      (Steps-tickets mid new second).gone ticket
      (omega (arith, given, there.is_of_ticket, (Steps-tickets old mid first).grows)) none
    where
      given : entry.ticket < old.next_ticket
      given = all-middle (λ (e : LoadingEntry K). e.ticket < old.next_ticket) before entry after
          (subst (λ (l : List (LoadingEntry K)). AllByRecursion
          (λ e. e.ticket < old.next_ticket) l) there.split valid.tickets_given)
