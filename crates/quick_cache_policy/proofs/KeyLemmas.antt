-- What makes room brings no key, step by step: whether pinning is steady does not matter for this.
use Rattle.std.proofs.Common.{◌≡◌, ℕ, ◌-◌, ◌≤◌, Bool, true, false, List, [], ◌∷◌, ◌++◌, ap, arith}
use Rattle.quick_cache_model.specs.declared.queue.Queue.{Queue}
use Rattle.quick_cache_model.specs.CacheState.{CacheState, Item, keys_by}
use Rattle.quick_cache_model.specs.Hooks.{Rules, HookCall}
use Rattle.quick_cache_model.proofs.Eviction.Keys.{EvictsVictim-keys}
use Rattle.quick_cache_model.proofs.KeyCounts.{keys, keys-cons, keys-append, keys-split, keys-raised}
use Rattle.quick_cache_model.proofs.OrderLaws.{SameButOrder-keys}
use Rattle.quick_cache_store.specs.Views.{items_of}
use Rattle.quick_cache_policy.specs.declared.contents.Contents.{Contents}
use Rattle.quick_cache_policy.specs.declared.evicting.cold.Search.{Search}
use Rattle.quick_cache_policy.specs.Advances.{FirstIsEvicted, FirstIsPromoted, StopsAt, SearchEnds, Searches}
use Rattle.quick_cache_policy.specs.Contents.{state_of}
use Rattle.quick_cache_policy.specs.HotRounds.{SeekEnds}
use Rattle.quick_cache_policy.proofs.KeptLemmas.{MeetsVictim-keeps, GivesUp-keeps}

module _ {K V : Type 0} (test : K → Bool) where
  -- the first item of a ring leaves it, or stays with its key
  pub FirstIsEvicted-keys : (rules : Rules K V) (queue : Queue) (old new : CacheState K V)
      (calls : List (HookCall K V)) → FirstIsEvicted rules queue old calls new
      → keys_by test new ≤ keys_by test old
  FirstIsEvicted-keys rules Queue.Hot old new calls first =
      omega (
        arith,
        SameButOrder-keys test first.evicts.ordered new first.evicts.same,
        EvictsVictim-keys rules test Queue.Hot (record old { hot = first.rest })
            first.evicts.ordered first.item calls first.evicts.holds,
        ap (keys test) first.stands,
        keys-cons test first.item first.rest,
      )
  FirstIsEvicted-keys rules Queue.Cold old new calls first =
      omega (
        arith,
        SameButOrder-keys test first.evicts.ordered new first.evicts.same,
        EvictsVictim-keys rules test Queue.Cold (record old { cold = first.rest })
            first.evicts.ordered first.item calls first.evicts.holds,
        ap (keys test) first.stands,
        keys-cons test first.item first.rest,
      )

  -- the first cold item becomes the last hot one
  pub FirstIsPromoted-keys : (old new : CacheState K V) → FirstIsPromoted old new
      → keys_by test new ≤ keys_by test old
  FirstIsPromoted-keys old new first =
      let moved : Item K V = record first.item { mark = first.item.mark - 1; queue = Queue.Hot } in
      omega (
        arith,
        ap (keys_by test) first.promoted,
        ap (keys test) first.stands,
        keys-cons test first.item first.rest,
        keys-append test old.hot (moved ∷ []),
        keys-cons test moved [],
      )

  module _ (steady : Type 0) (pinned : K → V → Bool) where
    -- a search that stopped at an item turned the ring
    StopsAt-keys : (met : Item K V → Type 0) (old new : List (Item K V))
        → StopsAt steady pinned met old new → keys test new ≡ keys test old
    StopsAt-keys met old new stops =
        omega (
          arith,
          ap (keys test) stops.turned,
          ap (keys test) stops.split,
          keys-split test stops.before stops.item stops.after,
          keys-cons test stops.item (stops.after ++ stops.before),
          keys-append test stops.after stops.before,
        )

    -- a search of the cold ring
    pub Searches-keys : (cut : ℕ) (may_count : ℕ → Type 0) (old new : List (Item K V))
        (answer : Search) → Searches steady pinned cut may_count old answer new → keys test new ≡ keys test old
    Searches-keys cut may_count old new answer searches =
        omega (
          arith,
          keys-raised test cut may_count old searches.cold searches.raised,
          ends answer searches.ends,
        )
      where
        ends : (b : Search) → SearchEnds steady pinned searches.cold b new
            → keys test new ≡ keys test searches.cold
        ends Search.Marked stops = StopsAt-keys _ searches.cold new stops
        ends Search.Victim stops = StopsAt-keys _ searches.cold new stops
        ends Search.AllPassed passed = ap (keys test) passed.1

    -- round after round of the hot ring
    pub SeekEnds-keys : (cut : ℕ) (may_count : ℕ → Type 0) (met : Bool) (old new : List (Item K V))
        (visits : ℕ) → SeekEnds steady pinned cut may_count met old new visits
        → keys test new ≡ keys test old
    SeekEnds-keys cut may_count true old new visits ends =
        let kept = MeetsVictim-keeps cut steady pinned true may_count old new visits
        ends in
        kept.same_keys test
    SeekEnds-keys cut may_count false old new visits ends =
        let kept = GivesUp-keeps cut steady pinned true may_count old new visits ends in
        kept.same_keys test

module _ {K V P W A T : Type 0} (ticket_of : P → ℕ) (test : K → Bool) where
  -- another hot ring with as many keys that pass
  pub keys_by-hot : (old new : Contents K V W A T P) (advances : ℕ)
      → new ≡ record old {
        lists = record old.lists { hot = new.lists.hot };
        advances = advances;
        visits = new.visits;
      }
      → keys test (items_of new.lists.hot) ≡ keys test (items_of old.lists.hot)
      → keys_by test (state_of ticket_of new) ≡ keys_by test (state_of ticket_of old)
  keys_by-hot old new advances same hot =
      omega (
        arith,
        ap (λ (c : Contents K V W A T P). keys_by test (state_of ticket_of c)) same,
        hot,
      )

  -- another cold ring with as many keys that pass
  pub keys_by-cold : (old new : Contents K V W A T P)
      → new ≡ record old { lists = record old.lists { cold = new.lists.cold } }
      → keys test (items_of new.lists.cold) ≡ keys test (items_of old.lists.cold)
      → keys_by test (state_of ticket_of new) ≡ keys_by test (state_of ticket_of old)
  keys_by-cold old new same cold =
      omega (
        arith,
        ap (λ (c : Contents K V W A T P). keys_by test (state_of ticket_of c)) same,
        cold,
      )
