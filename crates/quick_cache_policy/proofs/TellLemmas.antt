-- What hook calls tell of residents, step by step: whether pinning is steady does not matter for
-- this.
use Rattle.std.proofs.Common.{◌≡◌, ℕ, ◌-◌, Bool, true, false, List, [], ◌∷◌, ◌++◌, map, IsPermutation, sym, subst, inl, inr}
use Rattle.std.proofs.lemmas.List.{map-append}
use Rattle.std.proofs.lemmas.List.Sorted.{IsPermutation-refl, IsPermutation-sym, IsPermutation-trans, IsPermutation-append_comm}
use Rattle.std.proofs.lemmas.List.Sorted.{IsPermutation-cons}
use Rattle.quick_cache_model.specs.declared.queue.Queue.{Queue}
use Rattle.quick_cache_model.specs.CacheState.{CacheState, Item, Place, InHot, InCold, SameButOrder, ring_place, items_at, with_items}
use Rattle.quick_cache_model.specs.CacheState.{entered, rewritten}
use Rattle.quick_cache_model.specs.Hooks.{Rules, HookCall, evicted}
use Rattle.quick_cache_model.specs.Removal.{pair_of}
use Rattle.quick_cache_model.specs.Writes.{TakesOutItem}
use Rattle.quick_cache_model.specs.Fates.{residents}
use Rattle.quick_cache_model.specs.Leads.{Tells, TellsResidents}
use Rattle.quick_cache_model.proofs.Leads.{Leads-same, Leads-from, Leads-to, Leads-changes, Tells-append, swapped}
use Rattle.quick_cache_model.proofs.Residents.{residents-split, residents-put, residents-entered, residents-rewritten, residents-ordered}
use Rattle.quick_cache_model.proofs.Residents.{pairs-raised}
use Rattle.quick_cache_model.proofs.Victims.{evicted-tells, EvictsVictim-tells}
use Rattle.quick_cache_policy.specs.declared.writing.admission.Admission.{Admission}
use Rattle.quick_cache_policy.specs.declared.evicting.cold.Search.{Search}
use Rattle.quick_cache_policy.specs.Advances.{FirstIsEvicted, FirstIsPromoted, StopsAt, SearchEnds, Searches}
use Rattle.quick_cache_policy.specs.HotRounds.{SeekEnds}
use Rattle.quick_cache_policy.specs.Writing.{Checks}
use Rattle.quick_cache_policy.proofs.KeptLemmas.{MeetsVictim-keeps, GivesUp-keeps}

module _ {K V : Type 0} where
  -- the first item of a ring leaves it: it is told, and where it stays its value is
  pub FirstIsEvicted-tells : (rules : Rules K V) (queue : Queue) (old new : CacheState K V)
      (calls : List (HookCall K V)) → FirstIsEvicted rules queue old calls new
      → TellsResidents old calls new
  FirstIsEvicted-tells rules queue old new calls first =
      let mid = with_items (ring_place queue) first.rest old in
      Leads-from (residents old) (pair_of first.item ∷ residents mid)
      (residents-split (ring_place queue) [] first.item first.rest old first.stands)
      (Leads-to (residents first.evicts.ordered) (residents new)
      (residents-ordered first.evicts.ordered new first.evicts.same)
      (EvictsVictim-tells rules queue mid first.item calls first.evicts.ordered
      first.evicts.holds))

  -- the first cold item becomes the last hot one: nothing is to be told
  pub FirstIsPromoted-order : (old new : CacheState K V) → FirstIsPromoted old new
      → IsPermutation (residents old) (residents new)
  FirstIsPromoted-order old new first =
      let taken = with_items InCold first.rest old in
      let moved : Item K V = record first.item { mark = first.item.mark - 1; queue = Queue.Hot } in
      subst (λ (s : CacheState K V). IsPermutation (residents old) (residents s))
      (sym first.promoted)
      (IsPermutation-trans (residents old) (pair_of first.item ∷ residents taken) _
      (residents-split InCold [] first.item first.rest old first.stands)
      (IsPermutation-sym _ _ (residents-put InHot moved taken)))

  module _ (steady : Type 0) (pinned : K → V → Bool) where
    -- a search that stopped at an item turned the ring
    StopsAt-order : (met : Item K V → Type 0) (old new : List (Item K V))
        → StopsAt steady pinned met old new → IsPermutation (map pair_of old) (map pair_of new)
    StopsAt-order met old new stops =
        subst (λ xs. IsPermutation (map pair_of xs) (map pair_of new)) (sym stops.split)
        (subst (λ xs. IsPermutation (map pair_of (stops.before ++ stops.item ∷ stops.after))
        (map pair_of xs)) (sym stops.turned)
        (subst (λ ps. IsPermutation ps (map pair_of (stops.item ∷ stops.after ++ stops.before)))
        (sym (map-append pair_of stops.before (stops.item ∷ stops.after)))
        (subst (λ ps. IsPermutation
        (map pair_of stops.before ++ map pair_of (stops.item ∷ stops.after)) ps)
        (sym (map-append pair_of (stops.item ∷ stops.after) stops.before))
        (IsPermutation-append_comm (map pair_of stops.before)
        (map pair_of (stops.item ∷ stops.after))))))

    -- a search of the cold ring
    pub Searches-order : (cut : ℕ) (may_count : ℕ → Type 0) (old new : List (Item K V)) (answer : Search)
        → Searches steady pinned cut may_count old answer new
        → IsPermutation (map pair_of old) (map pair_of new)
    Searches-order cut may_count old new answer searches =
        subst (λ ps. IsPermutation ps (map pair_of new))
        (sym (pairs-raised cut may_count old searches.cold searches.raised))
        (ends answer searches.ends)
      where
        ends : (b : Search) → SearchEnds steady pinned searches.cold b new
            → IsPermutation (map pair_of searches.cold) (map pair_of new)
        ends Search.Marked stops = StopsAt-order _ searches.cold new stops
        ends Search.Victim stops = StopsAt-order _ searches.cold new stops
        ends Search.AllPassed passed =
            subst (λ xs. IsPermutation (map pair_of searches.cold) (map pair_of xs))
            (sym passed.1) (IsPermutation-refl (map pair_of searches.cold))

    -- round after round of the hot ring
    pub SeekEnds-order : (cut : ℕ) (may_count : ℕ → Type 0) (met : Bool)
        (old new : List (Item K V)) (visits : ℕ)
        → SeekEnds steady pinned cut may_count met old new visits
        → IsPermutation (map pair_of old) (map pair_of new)
    SeekEnds-order cut may_count true old new visits ends =
        let kept = MeetsVictim-keeps cut steady pinned true may_count old new visits
        ends in
        kept.same_pairs
    SeekEnds-order cut may_count false old new visits ends =
        let kept = GivesUp-keeps cut steady pinned true may_count old new visits ends in
        kept.same_pairs

  -- ---- a pair that comes in

  -- a check of a pair tells of its value, where it changes
  pub Checks-tells : (steady : Type 0) (rules : Rules K V) (hot_target : ℕ) (key : K) (value : V)
      (admitted : _) (calls : List (HookCall K V)) (pairs : List (K × V))
      → Checks steady rules hot_target key value (Admission.Admitted admitted) calls
      → Tells ((key, value) ∷ pairs) calls ((key, admitted.value) ∷ pairs)
  Checks-tells steady rules hot_target key value admitted calls pairs checks =
      elim checks.2 [
        | inl nothing ↦ subst (λ l. Tells ((key, value) ∷ pairs) l
            ((key, admitted.value) ∷ pairs)) (sym nothing.0)
            (subst (λ v. Tells ((key, v) ∷ pairs) [] ((key, admitted.value) ∷ pairs)) nothing.1
            (Leads-same ((key, admitted.value) ∷ pairs)))
        | inr once ↦ subst (λ l. Tells ((key, value) ∷ pairs) l
            ((key, admitted.value) ∷ pairs)) (sym once)
            (Leads-changes key value admitted.value (Leads-same ((key, admitted.value) ∷ pairs)))
      ]

  -- an item that was put last, and what is told from there
  pub entered-tells : (item : Item K V) (old mid last : CacheState K V)
      (calls : List (HookCall K V)) → SameButOrder (entered item old) mid
      → TellsResidents mid calls last
      → Tells (pair_of item ∷ residents old) calls (residents last)
  entered-tells item old mid last calls order tells =
      Leads-from (pair_of item ∷ residents old) (residents mid)
      (IsPermutation-trans (pair_of item ∷ residents old) (residents (entered item old))
      (residents mid) (IsPermutation-sym _ _ (residents-entered item old))
      (residents-ordered (entered item old) mid order)) tells

  -- an item that stands in for another, which is told first
  pub rewritten-tells : (place : Place) (before : List (Item K V)) (item was : Item K V)
      (after : List (Item K V)) (old mid last : CacheState K V) (calls : List (HookCall K V))
      → items_at place old ≡ before ++ was ∷ after
      → SameButOrder (rewritten place before item after old) mid
      → TellsResidents mid calls last
      → Tells (pair_of item ∷ residents old) (evicted was.queue was.key was.value ∷ calls)
      (residents last)
  rewritten-tells place before item was after old mid last calls split order tells =
      let rest = residents (with_items place (before ++ after) old) in
      Tells-append (evicted was.queue was.key was.value ∷ []) calls
      (Leads-from (pair_of item ∷ residents old) (pair_of was ∷ pair_of item ∷ rest)
      (IsPermutation-trans (pair_of item ∷ residents old) (pair_of item ∷ pair_of was ∷ rest)
      (pair_of was ∷ pair_of item ∷ rest)
      (IsPermutation-cons (pair_of item) (residents old) (pair_of was ∷ rest)
      (residents-split place before was after old split))
      (swapped (pair_of item) (pair_of was) rest))
      (evicted-tells was.queue was.key was.value (pair_of item ∷ rest)))
      (Leads-from (pair_of item ∷ rest) (residents mid)
      (IsPermutation-trans (pair_of item ∷ rest) (residents (rewritten place before item after old))
      (residents mid) (IsPermutation-sym _ _ (residents-rewritten place before item after old))
      (residents-ordered (rewritten place before item after old) mid order)) tells)

  -- an item that is taken out is told, and nothing else where there is none
  pub TakesOutItem-tells : (equal_to : K → Bool) (old new : CacheState K V)
      (calls : List (HookCall K V)) → TakesOutItem equal_to old calls new
      → TellsResidents old calls new
  TakesOutItem-tells equal_to old _ _ (TakesOutItem.was_there place before item after there) =
      let rest = residents (with_items place (before ++ after) old) in
      Leads-from (residents old) (pair_of item ∷ rest)
      (residents-split place before item after old there.split)
      (evicted-tells item.queue item.key item.value rest)
  TakesOutItem-tells equal_to old _ _ (TakesOutItem.was_absent none) =
      Leads-same (residents old)
