-- A hot advance over the contents of a cache: what its visits and its eviction come to.
use Rattle.std.proofs.Common.{◌≡◌, ℕ, ◌+◌, ◌*◌, ◌≤◌, Bool, true, false, [], length, IsPermutation, refl, sym, ap, subst, arith}
use Rattle.std.proofs.Math.Nat.{mul-le-mul_left}
use Rattle.std.proofs.lemmas.List.{length-map}
use Rattle.quick_cache_model.specs.declared.queue.Queue.{Queue}
use Rattle.quick_cache_model.specs.CacheState.{CacheState, InHot, with_items}
use Rattle.quick_cache_model.specs.Eviction.{AdvancesHot, EvictsVictim}
use Rattle.quick_cache_model.specs.Hooks.{Rules, Hooks, Calls}
use Rattle.quick_cache_model.specs.Touches.{counted_up}
use Rattle.quick_cache_model.proofs.OrderLaws.{UpToOrder-exact, UpToOrder-map}
use Rattle.quick_cache_model.specs.Fates.{residents}
use Rattle.quick_cache_model.specs.Leads.{Leads}
use Rattle.quick_cache_model.proofs.Leads.{Leads-from}
use Rattle.quick_cache_model.proofs.Residents.{residents-reordered}
use Rattle.quick_cache_store.specs.Views.{items_of}
use Rattle.quick_cache_policy.specs.declared.contents.Contents.{Contents}
use Rattle.quick_cache_policy.specs.Advances.{AreEvictions, Evicting, FirstIsEvicted}
use Rattle.quick_cache_policy.specs.Contents.{state_of}
use Rattle.quick_cache_policy.specs.HotRounds.{VisitsHot, SeekEnds}
use Rattle.quick_cache_policy.specs.Work.{Work, PaysFor}
use Rattle.quick_cache_policy.proofs.TellLemmas.{FirstIsEvicted-tells, SeekEnds-order}
use Rattle.quick_cache_policy.proofs.AdvanceLemmas.{AdvancesHot-met, AdvancesHot-none, MeetsVictim-within, GivesUp-within}

-- One advance, which counts one unless it is paid for.
pub PaysFor-advance : (cut extra old_hot cold new_hot new_cold visits : ℕ) (old new : Work)
    → new.advances ≡ counted_up 1 old.advances → new.visits ≡ counted_up visits old.visits
    → visits ≤ (cut + 1) * old_hot → new_hot ≤ old_hot → new_hot + 1 ≡ old_hot + extra → new_cold ≡ cold
    → PaysFor cut extra old_hot cold new_hot new_cold old new
PaysFor-advance cut extra old_hot cold new_hot new_cold visits old new advanced visited within fewer
    falls same = record {
      advances = 1;
      visits = visits;
      does = record { advances_are = advanced; visits_are = visited };
      members = omega (arith, fewer, same);
      paid = omega (arith, falls, same);
      visited = omega (
        arith,
        within,
        mul-le-mul_left (cut + 1) (more old_hot cold),
      );
    }
  where
    more : (n k : ℕ) → n ≤ n + k
    more n k = omega arith

module _ {K V P W A T S : Type 0} (ticket_of : P → ℕ) (steady : Type 0) (rules : Rules K V)
    (hooks : Hooks K V S) (old now : Contents K V W A T P) (advances : ℕ) (met : Bool)
    (seeks : VisitsHot (SeekEnds steady rules.pinned old.mark_cut rules.may_count met)
    (record old { advances = advances }) now)
    (same : now ≡ record old {
      lists = record old.lists { hot = now.lists.hot };
      advances = advances;
      visits = now.visits;
    }) where
  -- the state with the ring that the visits left
  state_of-visited : state_of ticket_of now
      ≡ record (state_of ticket_of old) { hot = items_of now.lists.hot }
  state_of-visited = ap (λ (c : Contents K V W A T P). state_of ticket_of c) same

  -- the visits change no pair
  visited-order : IsPermutation (residents (state_of ticket_of old))
      (residents (state_of ticket_of now))
  visited-order =
      subst (λ (s : CacheState K V). IsPermutation (residents (state_of ticket_of old))
      (residents s)) (sym state_of-visited)
      (residents-reordered InHot (items_of old.lists.hot) (items_of now.lists.hot)
      (state_of ticket_of old)
      (SeekEnds-order steady rules.pinned old.mark_cut rules.may_count met (items_of old.lists.hot)
      (items_of now.lists.hot) seeks.visits seeks.ends))

  -- where there was no victim, the visits are the advance
  pub AdvancesHot-gives_up : met ≡ false → (first : S)
      → Calls hooks (Evicting steady (λ state. AdvancesHot rules state false)
      (state_of ticket_of old) (state_of ticket_of now)) first first
  AdvancesHot-gives_up none first =
      let ends = subst (λ b. SeekEnds steady rules.pinned old.mark_cut rules.may_count b
      (items_of old.lists.hot) (items_of now.lists.hot) seeks.visits) none seeks.ends in
      record {
        calls = [];
        holds = (
          λ (is_steady : steady).
              UpToOrder-exact (AdvancesHot rules (state_of ticket_of old) false [])
              (state_of ticket_of now)
              (subst (AdvancesHot rules (state_of ticket_of old) false []) (sym state_of-visited)
              (AdvancesHot-none rules (state_of ticket_of old) ends.mid (items_of now.lists.hot)
              seeks.visits ends.raises (ends.holds.none_unpinned is_steady))),
          AreEvictions.none,
          Leads.rests (residents (state_of ticket_of old)) (residents (state_of ticket_of now))
              visited-order,
        );
        runs = refl;
      }

  -- where there was one, it is the first item and is evicted
  pub AdvancesHot-evicts : met ≡ true → (new : Contents K V W A T P) (first last : S)
      → Calls hooks (λ calls. FirstIsEvicted rules Queue.Hot (state_of ticket_of now) calls
      (state_of ticket_of new) × AreEvictions calls) first last
      → Calls hooks (Evicting steady (λ state. AdvancesHot rules state true)
      (state_of ticket_of old) (state_of ticket_of new)) first last
  AdvancesHot-evicts there new first last evicts =
      let ends = subst (λ b. SeekEnds steady rules.pinned old.mark_cut rules.may_count b
      (items_of old.lists.hot) (items_of now.lists.hot) seeks.visits) there seeks.ends in
      let gone = evicts.holds.0 in
      let left : with_items InHot gone.rest (state_of ticket_of now)
      ≡ record (state_of ticket_of old) { hot = gone.rest } =
      ap (λ (s : CacheState K V). record s { hot = gone.rest }) state_of-visited in
      record {
        calls = evicts.calls;
        holds = (
          λ (is_steady : steady).
              UpToOrder-map
              (EvictsVictim rules Queue.Hot (with_items InHot gone.rest (state_of ticket_of now))
              gone.item
              evicts.calls)
              (AdvancesHot rules (state_of ticket_of old) true evicts.calls)
              (state_of ticket_of new)
              (λ state goes. AdvancesHot-met rules (state_of ticket_of old) ends.mid
              (items_of now.lists.hot) gone.rest gone.item seeks.visits evicts.calls state
              ends.raises (ends.holds.is_met is_steady) gone.stands
              (subst (λ s. EvictsVictim rules Queue.Hot s gone.item evicts.calls state) left goes))
              gone.evicts,
          evicts.holds.1,
          Leads-from (residents (state_of ticket_of old)) (residents (state_of ticket_of now))
              visited-order
              (FirstIsEvicted-tells rules Queue.Hot (state_of ticket_of now)
              (state_of ticket_of new)
              evicts.calls gone),
        );
        runs = evicts.runs;
      }

  -- at most one visit more an item than the greatest mark
  pub visits-an_item : seeks.visits ≤ (old.mark_cut + 1) * length old.lists.hot
  visits-an_item = go met seeks.ends
    where
      items : length (items_of old.lists.hot) ≡ length old.lists.hot
      items = length-map old.lists.hot (λ held. held.item)

      go : (b : Bool) → SeekEnds steady rules.pinned old.mark_cut rules.may_count b (items_of old.lists.hot)
          (items_of now.lists.hot) seeks.visits → seeks.visits ≤ (old.mark_cut + 1) * length old.lists.hot
      go true ends = subst (λ n. seeks.visits ≤ (old.mark_cut + 1) * n) items
          (MeetsVictim-within steady rules.pinned old.mark_cut rules.may_count
          (items_of old.lists.hot) (items_of now.lists.hot) seeks.visits ends)
      go false ends = subst (λ n. seeks.visits ≤ (old.mark_cut + 1) * n) items
          (GivesUp-within steady rules.pinned old.mark_cut rules.may_count
          (items_of old.lists.hot) (items_of now.lists.hot) seeks.visits ends)
