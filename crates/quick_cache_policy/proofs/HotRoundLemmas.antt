-- What rounds of a hot advance do to the contents of a cache.
use Rattle.std.proofs.Common.{◌≡◌, ℕ, ◌+◌, ◌^◌, ◌<◌, Bool, true, false, List, [], ◌∷◌, ◌++◌, length, refl, sym, ap, subst, ◌∙◌, arith}
use Rattle.std.specs.List.{AllByRecursion}
use Rattle.std.proofs.lemmas.List.{length-map}
use Rattle.quick_cache_model.specs.declared.queue.Queue.{Queue}
use Rattle.quick_cache_model.specs.CacheState.{Item}
use Rattle.quick_cache_model.specs.Eviction.{lowered}
use Rattle.quick_cache_model.specs.Touches.{counted_up}
use Rattle.quick_cache_model.proofs.TouchLaws.{with_touches-key}
use Rattle.quick_cache_store.specs.Lists.{HeldItem, Lists, ring_turned, turned}
use Rattle.quick_cache_store.specs.Views.{items_of}
use Rattle.quick_cache_store.proofs.lists.CallerLemmas.{items_of-split}
use Rattle.quick_cache_policy.specs.declared.contents.Contents.{Contents}
use Rattle.quick_cache_policy.specs.declared.evicting.hot.Round.{Round}
use Rattle.quick_cache_policy.specs.declared.evicting.hot.Visit.{Visit}
use Rattle.quick_cache_policy.specs.Contents.{IsSound}
use Rattle.quick_cache_policy.specs.HotRounds.{VisitsHot, VisitsFirst, RoundEnds}
use Rattle.quick_cache_policy.specs.Rounds.{MayTake, Going, KeepsItems}
use Rattle.quick_cache_policy.specs.Places.{places_in, LosesOnly}
use Rattle.quick_cache_policy.proofs.PlaceLemmas.{LosesOnly-same, LosesOnly-ring_turned}
use Rattle.quick_cache_policy.proofs.HotLemmas.{counted_up-zero, counted_up-twice}
use Rattle.quick_cache_model.proofs.EachElement.{all-append}
use Rattle.quick_cache_policy.proofs.KeptLemmas.{EndsAllPinned-keeps, EndsSomeUnpinned-keeps, EndsAtVictim-keeps}
use Rattle.quick_cache_policy.proofs.RoundLemmas.{round-begins, Going-length, round-passes_pinned, round-passes_marked, round-stops}
use Rattle.quick_cache_policy.proofs.RoundLemmas.{round-over_pinned, round-over_unpinned}

module _ {K V P W A T : Type 0} (hash : K → ℕ) where
  -- The items of the hot ring stand under their hashes, so many visits were counted, and nothing
  -- else changed.
  pub record ChangesHot (visits : ℕ) (old new : Contents K V W A T P) : Type 0 where
    pub hashed : AllByRecursion (λ held. held.hash ≡ hash held.item.key) new.lists.hot
    pub counted : new.visits ≡ counted_up visits old.visits
    pub places : LosesOnly (places_in old.lists.hot) (places_in new.lists.hot)
    pub same : new ≡ record old {
      lists = record old.lists { hot = new.lists.hot };
      visits = new.visits;
    }

  -- nothing changed
  pub ChangesHot-none : (old : Contents K V W A T P)
      → AllByRecursion (λ held. held.hash ≡ hash held.item.key) old.lists.hot
      → old.visits < 2 ^ 64 → ChangesHot 0 old old
  ChangesHot-none old hashed within = record {
    hashed = hashed;
    counted = counted_up-zero old.visits within;
    places = λ place there. there;
    same = refl;
  }

  -- the greatest mark stays
  pub ChangesHot-cut : (n : ℕ) (old new : Contents K V W A T P) → ChangesHot n old new
      → new.mark_cut ≡ old.mark_cut
  ChangesHot-cut n old new changes =
      ap (λ (c : Contents K V W A T P). c.mark_cut) changes.same

  -- one change after another
  pub ChangesHot-then : (n k : ℕ) (old mid new : Contents K V W A T P) → ChangesHot n old mid
      → ChangesHot k mid new → ChangesHot (n + k) old new
  ChangesHot-then n k old mid new a b = record {
    hashed = b.hashed;
    counted = b.counted ∙ ap (counted_up k) a.counted ∙ counted_up-twice n k old.visits;
    places = λ place there. a.places place (b.places place there);
    same = b.same ∙ ap (λ (c : Contents K V W A T P). record c {
      lists = record c.lists { hot = new.lists.hot };
      visits = new.visits;
    }) a.same;
  }

  -- what keeps the items keeps the contents sound
  pub ChangesHot-sound : (ticket_of : P → ℕ) (equal : K → K → Bool) (n : ℕ)
      (old new : Contents K V W A T P) → ChangesHot n old new
      → KeepsItems old.mark_cut (items_of old.lists.hot) (items_of new.lists.hot)
      → IsSound ticket_of equal hash old → IsSound ticket_of equal hash new
  ChangesHot-sound ticket_of equal n old new changes keeps sound =
      subst (λ (c : Contents K V W A T P). IsSound ticket_of equal hash c) (sym changes.same)
      (record {
        valid = record {
          one_entry_a_key = λ k. omega (
            arith,
            sound.valid.one_entry_a_key k,
            keeps.same_keys (equal k),
          );
          one_entry_a_ticket = sound.valid.one_entry_a_ticket;
          tickets_given = sound.valid.tickets_given;
          ghosts_within = sound.valid.ghosts_within;
          in_hot = keeps.ring Queue.Hot sound.valid.in_hot;
          in_cold = sound.valid.in_cold;
          in_still = sound.valid.in_still;
        };
        sized = sound.sized;
        hashed = record {
          hot = changes.hashed;
          cold = sound.hashed.cold;
          still = sound.hashed.still;
          loading = sound.hashed.loading;
        };
      })

-- there are as many entries as items
length_items : {K V : Type 0} (entries : List (HeldItem K V))
    → length (items_of entries) ≡ length entries
length_items {K} {V} entries = length-map entries (λ (h : HeldItem K V). h.item)

-- touches change no key
pub MayTake-key : {K V : Type 0} (takes_touches : Bool) (cut : ℕ) (may_count : ℕ → Type 0)
    (x y : Item K V) → MayTake takes_touches cut may_count x y → y.key ≡ x.key
MayTake-key {K} {V} true cut may_count x y takes = ap (λ (i : Item K V). i.key) takes.2
    ∙ with_touches-key cut takes.0 x
MayTake-key {K} {V} false cut may_count x y takes = ap (λ (i : Item K V). i.key) takes

module _ {K V P W A T : Type 0} (hash : K → ℕ) (steady : Type 0) (pinned : K → V → Bool)
    (takes_touches : Bool) (may_count : ℕ → Type 0) where
  -- a visit to the first item changes the hot ring
  pub VisitsFirst-changes : (old new : Contents K V W A T P) (met : Visit)
      → AllByRecursion (λ held. held.hash ≡ hash held.item.key) old.lists.hot
      → VisitsFirst steady pinned takes_touches may_count old met new → ChangesHot hash 1 old new
  VisitsFirst-changes old new met hashed v =
      let under = subst (AllByRecursion (λ (h : HeldItem K V). h.hash ≡ hash h.item.key)) v.stands
      hashed in
      record {
        hashed = subst (AllByRecursion (λ (h : HeldItem K V). h.hash ≡ hash h.item.key))
            (sym (ap (λ (c : Contents K V W A T P). c.lists.hot) v.same)) (
              under.0 ∙ ap hash (sym (MayTake-key takes_touches old.mark_cut may_count v.held.item v.item
                  v.takes)),
              under.1,
            );
        counted = ap (λ (c : Contents K V W A T P). c.visits) v.same;
        places = LosesOnly-same _ _
            (ap (λ (c : Contents K V W A T P). places_in c.lists.hot) v.same
            ∙ ap (λ (k : K). (v.held.token, k) ∷ places_in v.rest)
            (MayTake-key takes_touches old.mark_cut may_count v.held.item v.item v.takes)
            ∙ sym (ap (λ (l : List (HeldItem K V)). places_in l) v.stands));
        same = ap (λ (c : Contents K V W A T P). record c {
          lists = record c.lists { hot = new.lists.hot };
          visits = new.visits;
        }) v.same;
      }

  -- the ring, once its first item was visited and put last
  pub record FirstPasses (old new : Contents K V W A T P) (rest : List (HeldItem K V))
      (made : HeldItem K V) : Type 0 where
    pub hot : new.lists.hot ≡ rest ++ made ∷ []
    pub changes : ChangesHot hash 1 old new

  -- what a turn leaves
  pub VisitsFirst-turned : (old mid : Contents K V W A T P) (lists : Lists K V P) (met : Visit)
      → AllByRecursion (λ held. held.hash ≡ hash held.item.key) old.lists.hot
      → (v : VisitsFirst steady pinned takes_touches may_count old met mid)
      → lists ≡ ring_turned Queue.Hot mid.lists
      → FirstPasses old (record mid { lists = lists }) v.rest
      (record v.held { item = lowered 1 v.item })
  VisitsFirst-turned old mid lists met hashed v turns =
      let made : HeldItem K V = record v.held { item = lowered 1 v.item } in
      let before : mid.lists.hot ≡ made ∷ v.rest =
      ap (λ (c : Contents K V W A T P). c.lists.hot) v.same in
      let hot : lists.hot ≡ v.rest ++ made ∷ [] =
      ap (λ (l : Lists K V P). l.hot) turns ∙ ap turned before in
      let first = VisitsFirst-changes old mid met hashed v in
      let under = subst (AllByRecursion (λ (h : HeldItem K V). h.hash ≡ hash h.item.key)) before
      first.hashed in
      record {
        hot = hot;
        changes = record {
          hashed = subst (AllByRecursion (λ (h : HeldItem K V). h.hash ≡ hash h.item.key)) (sym hot)
              (all-append (λ (h : HeldItem K V). h.hash ≡ hash h.item.key) v.rest (made ∷ [])
              under.1 (under.0, tt));
          counted = first.counted;
          places = λ place there. first.places place
              (subst (λ (l : List (HeldItem K V)). LosesOnly (places_in mid.lists.hot) (places_in l))
              (sym (ap (λ (l : Lists K V P). l.hot) turns))
              (LosesOnly-ring_turned mid.lists.hot) place there);
          same = ap (λ (l : Lists K V P). record mid { lists = l })
              (turns ∙ ap (λ xs. record mid.lists { hot = xs })
              (sym (ap (λ (l : Lists K V P). l.hot) turns)))
              ∙ ap (λ (c : Contents K V W A T P). record c {
                lists = record c.lists { hot = lists.hot };
                visits = mid.visits;
              }) first.same;
        };
      }

  -- The middle of a round: so many items were visited, and passed.
  pub record GoesRound (visited : ℕ) (unpinned : Bool)
      (old now : Contents K V W A T P) : Type 0 where
    pub going : Going steady pinned takes_touches old.mark_cut may_count
        (items_of old.lists.hot) visited unpinned (items_of now.lists.hot)
    pub changes : ChangesHot hash visited old now

  -- What a round did, with its end.
  pub record RoundDone (ticket_of : P → ℕ) (equal : K → K → Bool) (end : Round)
      (old new : Contents K V W A T P) : Type 0 where
    pub ends : VisitsHot (RoundEnds steady pinned takes_touches old.mark_cut may_count end) old new
    pub sound : IsSound ticket_of equal hash new
    pub count : length new.lists.hot ≡ length old.lists.hot
    pub places : LosesOnly (places_in old.lists.hot) (places_in new.lists.hot)
    pub same : new ≡ record old {
      lists = record old.lists { hot = new.lists.hot };
      visits = new.visits;
    }

  -- nothing was visited yet
  pub GoesRound-begins : (old : Contents K V W A T P)
      → AllByRecursion (λ held. held.hash ≡ hash held.item.key) old.lists.hot
      → old.visits < 2 ^ 64 → GoesRound 0 false old old
  GoesRound-begins old hashed within = record {
    going = round-begins steady pinned takes_touches old.mark_cut may_count
        (items_of old.lists.hot);
    changes = ChangesHot-none hash old hashed within;
  }

  -- no item comes or goes
  pub GoesRound-length : (visited : ℕ) (unpinned : Bool) (old now : Contents K V W A T P)
      → GoesRound visited unpinned old now → length now.lists.hot ≡ length old.lists.hot
  GoesRound-length visited unpinned old now goes =
      sym (length_items now.lists.hot)
      ∙ Going-length steady pinned takes_touches old.mark_cut may_count
      (items_of old.lists.hot) visited unpinned (items_of now.lists.hot) goes.going
      ∙ length_items old.lists.hot

  -- a pinned item is passed
  pub GoesRound-passes_pinned : (visited : ℕ) (unpinned next : Bool)
      (old now mid : Contents K V W A T P) (lists : Lists K V P) → next ≡ unpinned
      → GoesRound visited unpinned old now
      → visited < length old.lists.hot
      → VisitsFirst steady pinned takes_touches may_count now Visit.Pinned mid
      → lists ≡ ring_turned Queue.Hot mid.lists
      → GoesRound (visited + 1) next old (record mid { lists = lists })
  GoesRound-passes_pinned visited unpinned next old now mid lists is goes lt v turns =
      let p = VisitsFirst-turned now mid lists Visit.Pinned goes.changes.hashed v turns in
      let made : HeldItem K V = record v.held { item = lowered 1 v.item } in
      let short : visited < length (items_of old.lists.hot) =
      omega (arith, lt, length_items old.lists.hot) in
      record {
        going = subst (λ b. Going steady pinned takes_touches old.mark_cut may_count
            (items_of old.lists.hot) (visited + 1) b (items_of lists.hot)) (sym is)
            (subst (Going steady pinned takes_touches old.mark_cut may_count
            (items_of old.lists.hot) (visited + 1) unpinned)
            (sym (ap items_of p.hot ∙ items_of-split v.rest [] made))
            (round-passes_pinned steady pinned takes_touches old.mark_cut may_count
            (items_of old.lists.hot) visited unpinned (items_of now.lists.hot) v.held.item v.item
            (items_of v.rest) goes.going short (ap items_of v.stands)
            (subst (λ n. MayTake takes_touches n may_count v.held.item v.item)
            (ChangesHot-cut hash visited old now goes.changes) v.takes) v.meets));
        changes = ChangesHot-then hash visited 1 old now (record mid { lists = lists }) goes.changes
            p.changes;
      }

  -- and one that is marked
  pub GoesRound-passes_marked : (visited : ℕ) (unpinned next : Bool)
      (old now mid : Contents K V W A T P) (lists : Lists K V P) → next ≡ true
      → GoesRound visited unpinned old now
      → visited < length old.lists.hot
      → VisitsFirst steady pinned takes_touches may_count now Visit.Marked mid
      → lists ≡ ring_turned Queue.Hot mid.lists
      → GoesRound (visited + 1) next old (record mid { lists = lists })
  GoesRound-passes_marked visited unpinned next old now mid lists is goes lt v turns =
      let p = VisitsFirst-turned now mid lists Visit.Marked goes.changes.hashed v turns in
      let made : HeldItem K V = record v.held { item = lowered 1 v.item } in
      let short : visited < length (items_of old.lists.hot) =
      omega (arith, lt, length_items old.lists.hot) in
      record {
        going = subst (λ b. Going steady pinned takes_touches old.mark_cut may_count
            (items_of old.lists.hot) (visited + 1) b (items_of lists.hot)) (sym is)
            (subst (Going steady pinned takes_touches old.mark_cut may_count
            (items_of old.lists.hot) (visited + 1) true)
            (sym (ap items_of p.hot ∙ items_of-split v.rest [] made))
            (round-passes_marked steady pinned takes_touches old.mark_cut may_count
            (items_of old.lists.hot) visited unpinned (items_of now.lists.hot) v.held.item v.item
            (items_of v.rest) goes.going short (ap items_of v.stands)
            (subst (λ n. MayTake takes_touches n may_count v.held.item v.item)
            (ChangesHot-cut hash visited old now goes.changes) v.takes) v.meets.0 v.meets.1));
        changes = ChangesHot-then hash visited 1 old now (record mid { lists = lists }) goes.changes
            p.changes;
      }

  -- what keeps the items is all that a round's end must tell
  RoundDone-by : (ticket_of : P → ℕ) (equal : K → K → Bool) (end : Round) (visits : ℕ)
      (old new : Contents K V W A T P)
      → RoundEnds steady pinned takes_touches old.mark_cut may_count end (items_of old.lists.hot)
      (items_of new.lists.hot) visits
      → KeepsItems old.mark_cut (items_of old.lists.hot) (items_of new.lists.hot)
      → ChangesHot hash visits old new → IsSound ticket_of equal hash old
      → RoundDone ticket_of equal end old new
  RoundDone-by ticket_of equal end visits old new ends keeps changes sound = record {
    ends = record { visits = visits; ends = ends; counted = changes.counted };
    sound = ChangesHot-sound hash ticket_of equal visits old new changes keeps sound;
    count = sym (length_items new.lists.hot) ∙ keeps.same_length
        ∙ length_items old.lists.hot;
    places = changes.places;
    same = changes.same;
  }

  -- a round that met a victim
  pub GoesRound-stops : (ticket_of : P → ℕ) (equal : K → K → Bool) (visited : ℕ) (unpinned : Bool)
      (old now new : Contents K V W A T P) → may_count 0 → IsSound ticket_of equal hash old
      → GoesRound visited unpinned old now → visited < length old.lists.hot
      → VisitsFirst steady pinned takes_touches may_count now Visit.Victim new
      → RoundDone ticket_of equal Round.Victim old new
  GoesRound-stops ticket_of equal visited unpinned old now new none_counted sound goes lt v =
      let first = VisitsFirst-changes now new Visit.Victim goes.changes.hashed v in
      let short : visited < length (items_of old.lists.hot) =
      omega (arith, lt, length_items old.lists.hot) in
      let unmarked : lowered 1 v.item ≡ v.item = ap (λ n. record v.item { mark = n })
      (omega (arith, v.meets.0)) in
      let there : items_of new.lists.hot ≡ v.item ∷ items_of v.rest =
      ap (λ (c : Contents K V W A T P). items_of c.lists.hot) v.same
      ∙ ap (λ (x : Item K V). x ∷ items_of v.rest) unmarked in
      let ends : RoundEnds steady pinned takes_touches old.mark_cut may_count Round.Victim
      (items_of old.lists.hot) (items_of new.lists.hot) (visited + 1) =
      subst (λ xs. RoundEnds steady pinned takes_touches old.mark_cut may_count Round.Victim
      (items_of old.lists.hot) xs (visited + 1)) (sym there)
      (round-stops steady pinned takes_touches old.mark_cut may_count
      (items_of old.lists.hot) visited unpinned (items_of now.lists.hot) v.held.item v.item
      (items_of v.rest) none_counted goes.going short (ap items_of v.stands)
      (subst (λ n. MayTake takes_touches n may_count v.held.item v.item)
      (ChangesHot-cut hash visited old now goes.changes) v.takes) v.meets.0 v.meets.1) in
      RoundDone-by ticket_of equal Round.Victim (visited + 1) old new ends
      (EndsAtVictim-keeps old.mark_cut steady pinned takes_touches may_count
      (items_of old.lists.hot) (items_of new.lists.hot) (visited + 1) ends)
      (ChangesHot-then hash visited 1 old now new goes.changes first) sound

  -- a round that is over, with no unpinned item
  pub GoesRound-over_pinned : (ticket_of : P → ℕ) (equal : K → K → Bool) (visited : ℕ)
      (unpinned : Bool) (old now : Contents K V W A T P) → unpinned ≡ false
      → IsSound ticket_of equal hash old → GoesRound visited unpinned old now
      → visited ≡ length old.lists.hot
      → RoundDone ticket_of equal Round.AllPinned old now
  GoesRound-over_pinned ticket_of equal visited unpinned old now is sound goes all =
      let going = subst (λ b. Going steady pinned takes_touches old.mark_cut may_count
      (items_of old.lists.hot) visited b (items_of now.lists.hot)) is goes.going in
      let whole : visited ≡ length (items_of old.lists.hot) =
      all ∙ sym (length_items old.lists.hot) in
      let ends : RoundEnds steady pinned takes_touches old.mark_cut may_count Round.AllPinned
      (items_of old.lists.hot) (items_of now.lists.hot) visited =
      round-over_pinned steady pinned takes_touches old.mark_cut may_count
      (items_of old.lists.hot) visited (items_of now.lists.hot) going whole in
      RoundDone-by ticket_of equal Round.AllPinned visited old now ends
      (EndsAllPinned-keeps old.mark_cut steady pinned takes_touches may_count
      (items_of old.lists.hot) (items_of now.lists.hot) visited ends) goes.changes sound

  -- a round that is over, with some
  pub GoesRound-over_unpinned : (ticket_of : P → ℕ) (equal : K → K → Bool) (visited : ℕ)
      (unpinned : Bool) (old now : Contents K V W A T P) → unpinned ≡ true
      → IsSound ticket_of equal hash old → GoesRound visited unpinned old now
      → visited ≡ length old.lists.hot
      → RoundDone ticket_of equal Round.SomeUnpinned old now
  GoesRound-over_unpinned ticket_of equal visited unpinned old now is sound goes all =
      let going = subst (λ b. Going steady pinned takes_touches old.mark_cut may_count
      (items_of old.lists.hot) visited b (items_of now.lists.hot)) is goes.going in
      let whole : visited ≡ length (items_of old.lists.hot) =
      all ∙ sym (length_items old.lists.hot) in
      let ends : RoundEnds steady pinned takes_touches old.mark_cut may_count Round.SomeUnpinned
      (items_of old.lists.hot) (items_of now.lists.hot) visited =
      round-over_unpinned steady pinned takes_touches old.mark_cut may_count
      (items_of old.lists.hot) visited (items_of now.lists.hot) going whole in
      RoundDone-by ticket_of equal Round.SomeUnpinned visited old now ends
      (EndsSomeUnpinned-keeps old.mark_cut steady pinned takes_touches may_count
      (items_of old.lists.hot) (items_of now.lists.hot) visited ends) goes.changes sound
