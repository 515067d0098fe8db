-- How the rounds of a hot advance end, and what they do to the contents of a cache.
use Rattle.std.specs.Prelude.{◌≡◌, ℕ, Bool, true, false, List, ◌∷◌}
use Rattle.quick_cache_model.specs.CacheState.{Item}
use Rattle.quick_cache_model.specs.Eviction.{lowered}
use Rattle.quick_cache_model.specs.Touches.{counted_up}
use Rattle.quick_cache_store.specs.Lists.{HeldItem}
use Rattle.quick_cache_store.specs.Views.{items_of}
use Rattle.quick_cache_policy.specs.declared.contents.Contents.{Contents}
use Rattle.quick_cache_policy.specs.declared.evicting.hot.Round.{Round}
use Rattle.quick_cache_policy.specs.declared.evicting.hot.Visit.{Visit}
use Rattle.quick_cache_policy.specs.Advances.{Meets}
use Rattle.quick_cache_policy.specs.Rounds.{MayTake, AfterTouches, EndsAllPinned, EndsSomeUnpinned, EndsAtVictim, MeetsVictim, GivesUp}

module _ {K V : Type 0} (steady : Type 0) (pinned : K → V → Bool) where
  -- how a round of a ring ended, told of the ring as touches left it
  abbrev pub EndsAs : Round → (old new : List (Item K V)) (visits : ℕ) → Type 0
  EndsAs Round.AllPinned old new visits = EndsAllPinned steady pinned old new visits
  EndsAs Round.SomeUnpinned old new visits = EndsSomeUnpinned steady pinned old new visits
  EndsAs Round.Victim old new visits = EndsAtVictim steady pinned old new visits

  -- a round with its end; each item that it visited took its touches first, where it was to
  abbrev pub RoundEnds : (takes_touches : Bool) (cut : ℕ) → (ℕ → Type 0) → Round
      → (old new : List (Item K V)) (visits : ℕ) → Type 0
  RoundEnds takes_touches cut may_count end old new visits =
      AfterTouches takes_touches cut may_count old (λ mid. EndsAs end mid new visits)

  -- how round after round of a ring ended, at a victim or with none, told of the ring as touches
  -- left it
  abbrev pub EndsWith : (cut : ℕ) → (met : Bool) → (old new : List (Item K V)) (visits : ℕ) → Type 0
  EndsWith cut true old new visits = MeetsVictim steady pinned cut old new visits
  EndsWith cut false old new visits = GivesUp steady pinned cut old new visits

  -- round after round with their end; each item that was visited took its touches in the first
  abbrev pub SeekEnds : (cut : ℕ) → (ℕ → Type 0) → (met : Bool) → (old new : List (Item K V))
      (visits : ℕ) → Type 0
  SeekEnds cut may_count met old new visits =
      AfterTouches true cut may_count old (λ mid. EndsWith cut met mid new visits)

module _ {K V P W A T : Type 0} where
  -- The hot ring was visited so often, as told of its items, and each visit was counted.
  pub record VisitsHot (Ends : (old new : List (Item K V)) (visits : ℕ) → Type 0)
      (old new : Contents K V W A T P) : Type 0 where
    pub visits : ℕ
    pub ends : Ends (items_of old.lists.hot) (items_of new.lists.hot) visits
    pub counted : new.visits ≡ counted_up visits old.visits

  -- The first item of the hot ring took its touches, where it was to take them, and was visited:
  -- its mark fell by one, not below 0, and the visit was counted.
  pub record VisitsFirst (steady : Type 0) (pinned : K → V → Bool) (takes_touches : Bool)
      (may_count : ℕ → Type 0) (old : Contents K V W A T P) (met : Visit)
      (new : Contents K V W A T P) : Type 0 where
    pub held : HeldItem K V
    pub rest : List (HeldItem K V)
    pub stands : old.lists.hot ≡ held ∷ rest
    pub item : Item K V
    pub takes : MayTake takes_touches old.mark_cut may_count held.item item
    pub meets : Meets steady pinned item met
    pub same : new ≡ record old {
      lists = record old.lists { hot = record held { item = lowered 1 item } ∷ rest };
      visits = counted_up 1 old.visits;
    }
