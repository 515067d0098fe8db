-- A cold advance: what it comes to after the search.
use Rattle.std.proofs.Common.{◌≡◌, ◌-◌, Bool, true, List, [], ◌∷◌, ◌++◌, IsPermutation, sym, ap, subst, ◌∙◌}
use Rattle.std.specs.List.{AllByRecursion}
use Rattle.std.proofs.lemmas.List.Sorted.{IsPermutation-trans}
use Rattle.quick_cache_model.specs.declared.queue.Queue.{Queue}
use Rattle.quick_cache_model.specs.CacheState.{CacheState, Item, InCold}
use Rattle.quick_cache_model.specs.Eviction.{AdvancesHot, AdvancesCold, EvictsToTarget, EvictsVictim, IsPassed, promoted}
use Rattle.quick_cache_model.specs.Hooks.{Rules, HookCall}
use Rattle.quick_cache_model.proofs.EachElement.{all-weaker}
use Rattle.quick_cache_model.proofs.OrderLaws.{UpToOrder-map}
use Rattle.quick_cache_model.specs.Fates.{residents}
use Rattle.quick_cache_model.proofs.Leads.{Leads-from}
use Rattle.quick_cache_model.proofs.Residents.{residents-reordered}
use Rattle.quick_cache_policy.specs.declared.evicting.cold.Search.{Search}
use Rattle.quick_cache_policy.specs.Advances.{IsPassedBy, Searches, Evicting, AreEvictions, FirstIsPromoted, FirstIsEvicted}
use Rattle.quick_cache_policy.proofs.TellLemmas.{FirstIsEvicted-tells, FirstIsPromoted-order, Searches-order}

module _ {K V : Type 0} (rules : Rules K V) (steady : Type 0) (old : CacheState K V)
    (cold : List (Item K V)) where
  -- where pinning is steady, the items that a search passed by are those that an advance does
  passed_by : steady → (items : List (Item K V))
      → AllByRecursion (IsPassedBy steady rules.pinned) items
      → AllByRecursion (IsPassed rules) items
  passed_by is = all-weaker (IsPassedBy steady rules.pinned) (IsPassed rules)
      (λ item passed. (passed.unmarked, passed.pinned_there is))

  -- a search changes no pair
  searched-order : (answer : Search)
      → Searches steady rules.pinned old.mark_cut rules.may_count old.cold answer cold
      → IsPermutation (residents old) (residents (record old { cold = cold }))
  searched-order answer finds =
      residents-reordered InCold old.cold cold old
      (Searches-order steady rules.pinned old.mark_cut rules.may_count old.cold cold answer finds)

  -- a marked item was found, and promoted, and the hot ring brought to its target
  pub AdvancesCold-promoted : (mid new : CacheState K V) (calls : List (HookCall K V))
      → Searches steady rules.pinned old.mark_cut rules.may_count old.cold Search.Marked cold
      → FirstIsPromoted (record old { cold = cold }) mid
      → Evicting steady (EvictsToTarget rules) mid new calls
      → Evicting steady (λ state. AdvancesCold rules state true) old new calls
  AdvancesCold-promoted mid new calls finds first evicts =
      let e = finds.ends in
      let both : e.item ∷ e.after ++ e.before ≡ first.item ∷ first.rest =
      sym e.turned ∙ first.stands in
      let same : first.item ≡ e.item = cc in
      let rest : first.rest ≡ e.after ++ e.before = cc in
      let is : mid ≡ promoted rules e.before e.item e.after old =
      first.promoted
      ∙ ap (λ (i : Item K V). record old {
        cold = first.rest;
        hot = old.hot ++ record i { mark = i.mark - 1; queue = Queue.Hot } ∷ [];
      }) same
      ∙ ap (λ (xs : List (Item K V)). record old {
        cold = xs;
        hot = old.hot ++ record e.item { mark = e.item.mark - 1; queue = Queue.Hot } ∷ [];
      }) rest in (
        λ steadily. UpToOrder-map (EvictsToTarget rules mid calls)
            (AdvancesCold rules old true calls) new
            (λ state goes. AdvancesCold.promotes finds.cold e.before e.item e.after calls state
            finds.raised e.split (passed_by steadily e.before e.passed) e.meets
            (subst (λ (s : CacheState K V). EvictsToTarget rules s calls state) is goes))
            (evicts.0 steadily),
        evicts.1,
        Leads-from (residents old) (residents mid)
            (IsPermutation-trans (residents old) (residents (record old { cold = cold }))
            (residents mid) (searched-order Search.Marked finds)
            (FirstIsPromoted-order (record old { cold = cold }) mid first)) evicts.2,
      )

  -- an item was found that is neither marked nor pinned, and it left
  pub AdvancesCold-evicted : (new : CacheState K V) (calls : List (HookCall K V))
      → Searches steady rules.pinned old.mark_cut rules.may_count old.cold Search.Victim cold
      → FirstIsEvicted rules Queue.Cold (record old { cold = cold }) calls new × AreEvictions calls
      → Evicting steady (λ state. AdvancesCold rules state true) old new calls
  AdvancesCold-evicted new calls finds evicts =
      let e = finds.ends in
      let first = evicts.0 in
      let both : e.item ∷ e.after ++ e.before ≡ first.item ∷ first.rest =
      sym e.turned ∙ first.stands in
      let same : first.item ≡ e.item = cc in
      let rest : first.rest ≡ e.after ++ e.before = cc in (
        λ steadily. UpToOrder-map
            (EvictsVictim rules Queue.Cold (record old { cold = first.rest }) first.item calls)
            (AdvancesCold rules old true calls) new
            (λ state goes. AdvancesCold.evicts finds.cold e.before e.item e.after calls state
            finds.raised e.split (passed_by steadily e.before e.passed) e.meets.0 (e.meets.1 steadily)
            (subst (λ (xs : List (Item K V)). EvictsVictim rules Queue.Cold
            (record old { cold = xs })
            e.item calls state) rest
            (subst (λ (i : Item K V). EvictsVictim rules Queue.Cold
            (record old { cold = first.rest }) i
            calls state) same goes)))
            first.evicts,
        evicts.1,
        Leads-from (residents old) (residents (record old { cold = cold }))
            (searched-order Search.Victim finds)
            (FirstIsEvicted-tells rules Queue.Cold (record old { cold = cold }) new calls first),
      )

  -- all were passed by, and a hot advance was made
  pub AdvancesCold-passed : (answer : Bool) (new : CacheState K V) (calls : List (HookCall K V))
      → Searches steady rules.pinned old.mark_cut rules.may_count old.cold Search.AllPassed cold
      → Evicting steady (λ state. AdvancesHot rules state answer) (record old { cold = cold }) new
      calls
      → Evicting steady (λ state. AdvancesCold rules state answer) old new calls
  AdvancesCold-passed answer new calls finds advances = (
    λ steadily. UpToOrder-map (AdvancesHot rules (record old { cold = cold }) answer calls)
        (AdvancesCold rules old answer calls) new
        (λ state goes. AdvancesCold.passes_all finds.cold answer calls state
        finds.raised (passed_by steadily finds.cold finds.ends.0)
        (subst (λ (xs : List (Item K V)). AdvancesHot rules (record old { cold = xs }) answer calls
        state) finds.ends.1 goes))
        (advances.0 steadily),
    advances.1,
    Leads-from (residents old) (residents (record old { cold = cold }))
        (searched-order Search.AllPassed finds) advances.2,
  )
