-- Rounds of a hot advance. Each visit looks at the first item of the ring; an item that is passed
-- has its mark lowered by one, and goes to the end. So a round turns the ring, and what it leaves
-- is told of the ring that it began with. Of marks these words speak at once, of pins only where
-- pinning is steady. No public clause cites this module.
use Rattle.std.specs.Prelude.{◌≡◌, ℕ, ◌+◌, ◌*◌, ◌≤◌, Bool, true, false, List, ◌∷◌, ◌++◌, length, map, sum_by, count_by}
use Rattle.std.specs.List.{AllByRecursion}
use Rattle.std.specs.List.Sorted.{IsPermutation}
use Rattle.quick_cache_model.specs.declared.queue.Queue.{Queue}
use Rattle.quick_cache_model.specs.CacheState.{Item, IsRingItem, weight_of}
use Rattle.quick_cache_model.specs.Hooks.{Rules}
use Rattle.quick_cache_model.specs.Touches.{TakesTouches, RaisesMarks}
use Rattle.quick_cache_model.specs.Eviction.{lowered, IsFirstVictim}
use Rattle.quick_cache_model.specs.Removal.{pair_of}

-- rules of which only the pins matter
abbrev pub pin_rules : {K V : Type 0} → (K → V → Bool) → Rules K V
pin_rules pinned = record {
  hash = λ _. 0;
  weight = λ _ _. 1;
  pinned = pinned;
  may_count = λ n. n ≡ 0;
}

module _ {K V : Type 0} where
  -- no item has a mark
  abbrev pub AreUnmarked : List (Item K V) → Type 0
  AreUnmarked items = AllByRecursion (λ item. item.mark ≡ 0) items

  -- each item has at most so many marks
  abbrev pub HaveAtMost : (cut : ℕ) → List (Item K V) → Type 0
  HaveAtMost cut items = AllByRecursion (λ item. item.mark ≤ cut) items

  -- the marks of all items
  abbrev pub marks_of : List (Item K V) → ℕ
  marks_of items = sum_by (λ item. item.mark) items

  -- what falls with each round of an advance that is not its last; the first round, with touches to
  -- take in, may raise marks up to the greatest
  abbrev pub advance_measure : (takes_touches : Bool) (cut : ℕ) → List (Item K V) → ℕ
  advance_measure true cut items = cut * length items + 1
  advance_measure false cut items = marks_of items

  -- the item takes in its touches, where it is to take them, and else is the same
  abbrev pub MayTake : (takes_touches : Bool) (cut : ℕ) → (ℕ → Type 0) → (old new : Item K V)
      → Type 0
  MayTake true cut may_count old new = TakesTouches cut may_count old new
  MayTake false cut may_count old new = new ≡ old

  -- so does each item of a list
  abbrev pub MayRaise : (takes_touches : Bool) (cut : ℕ) → (ℕ → Type 0)
      → (old new : List (Item K V)) → Type 0
  MayRaise true cut may_count old new = RaisesMarks cut may_count old new
  MayRaise false cut may_count old new = new ≡ old

  -- what holds of the list once its items took in the touches that they are to take
  pub record AfterTouches (takes_touches : Bool) (cut : ℕ) (may_count : ℕ → Type 0)
      (old : List (Item K V)) (Holds : List (Item K V) → Type 0) : Type 0 where
    pub mid : List (Item K V)
    pub raises : MayRaise takes_touches cut may_count old mid
    pub holds : Holds mid

  -- Some rounds began with the first of these rings, and stopped at an item that has no mark left:
  -- it is the first of the new ring, each item that stood before it was lowered once more.
  pub record HasVictimFirst (old new : List (Item K V)) : Type 0 where
    pub rounds : ℕ
    pub before : List (Item K V)
    pub item : Item K V
    pub after : List (Item K V)
    pub split : old ≡ before ++ item ∷ after
    pub unmarked : item.mark ≤ rounds
    pub turned : new ≡ lowered rounds item
        ∷ map (lowered rounds) after ++ map (lowered (rounds + 1)) before

  -- whole rounds passed by each item
  pub record IsLowered (old new : List (Item K V)) : Type 0 where
    pub rounds : ℕ
    pub lowers : new ≡ map (lowered rounds) old

  -- A step keeps each item in its ring, with a mark up to the greatest, and changes no key, no
  -- value, no weight and not how many there are.
  pub record KeepsItems (cut : ℕ) (old new : List (Item K V)) : Type 0 where
    pub ring : (queue : Queue) → AllByRecursion (IsRingItem cut queue) old
        → AllByRecursion (IsRingItem cut queue) new
    pub same_keys : (test : K → Bool)
        → count_by (λ item. test item.key) new ≡ count_by (λ item. test item.key) old
    pub same_pairs : IsPermutation (map pair_of old) (map pair_of new)
    pub same_weight : weight_of new ≡ weight_of old
    pub same_length : length new ≡ length old

module _ {K V : Type 0} (pinned : K → V → Bool) where
  -- the item is not pinned
  abbrev pub IsUnpinned : Item K V → Type 0
  IsUnpinned item = pinned item.key item.value ≡ false

  -- each unpinned item has at least n marks
  abbrev pub HaveMarks : ℕ → List (Item K V) → Type 0
  HaveMarks n items = AllByRecursion (λ item. IsUnpinned item → n ≤ item.mark) items

  -- each item is pinned
  abbrev pub AreAllPinned : List (Item K V) → Type 0
  AreAllPinned items = AllByRecursion (λ item. pinned item.key item.value ≡ true) items

  -- A whole advance met its victim, the first of the unpinned items with the least mark: it is the
  -- first of the ring, each item that stood before it lost one more than its mark, each other that
  -- mark; and so many visits were needed.
  pub record IsMet (old new : List (Item K V)) (visits : ℕ) : Type 0 where
    pub before : List (Item K V)
    pub item : Item K V
    pub after : List (Item K V)
    pub split : old ≡ before ++ item ∷ after
    pub is_victim : IsFirstVictim (pin_rules pinned) before item after
    pub turned : new ≡ lowered item.mark item
        ∷ map (lowered item.mark) after ++ map (lowered (item.mark + 1)) before
    pub counts : visits ≡ item.mark * length old + length before + 1

  -- a whole advance found each item pinned: every mark fell by one
  pub record NoneUnpinned (old new : List (Item K V)) (visits : ℕ) : Type 0 where
    pub all_pinned : AreAllPinned old
    pub lowers : new ≡ map (lowered 1) old
    pub counts : visits ≡ length old

module _ {K V : Type 0} (steady : Type 0) (pinned : K → V → Bool) where
  -- a round passed by each item
  pub record Passed (old new : List (Item K V)) (visits : ℕ) : Type 0 where
    pub lowers : new ≡ map (lowered 1) old
    pub passes : steady → HaveMarks pinned 1 old
    pub counts : visits ≡ length old

  -- a round stopped at its victim, which now is the first of the ring
  pub record Stopped (old new : List (Item K V)) (visits : ℕ) : Type 0 where
    pub before : List (Item K V)
    pub item : Item K V
    pub after : List (Item K V)
    pub split : old ≡ before ++ item ∷ after
    pub turned : new ≡ item ∷ after ++ map (lowered 1) before
    pub unmarked : item.mark ≡ 0
    pub unpinned : steady → IsUnpinned pinned item
    pub passes : steady → HaveMarks pinned 1 before
    pub counts : visits ≡ length before + 1

  -- the first end of a round: each item is pinned
  abbrev pub EndsAllPinned : (old new : List (Item K V)) (visits : ℕ) → Type 0
  EndsAllPinned old new visits = Passed old new visits × (steady → AreAllPinned pinned old)

  -- the second: some item is unpinned, and had a mark
  abbrev pub EndsSomeUnpinned : (old new : List (Item K V)) (visits : ℕ) → Type 0
  EndsSomeUnpinned old new visits = Passed old new visits
      × (steady → AreAllPinned pinned old → ⊥) × (AreUnmarked old → ⊥)

  -- the third: an item is unpinned and has no mark
  abbrev pub EndsAtVictim : (old new : List (Item K V)) (visits : ℕ) → Type 0
  EndsAtVictim old new visits = Stopped old new visits

  -- what was seen of the items that were passed, as they were when they took in their touches;
  -- `unpinned`: one of them was unpinned
  pub record Seen (items : List (Item K V)) (unpinned : Bool) : Type 0 where
    pub passes : steady → HaveMarks pinned 1 items
    pub none : unpinned ≡ false → steady → AreAllPinned pinned items
    pub some : unpinned ≡ true
        → (steady → AreAllPinned pinned items → ⊥) × (AreUnmarked items → ⊥)

  -- The middle of a round that began with `old`: so many items were visited, and passed. Where the
  -- items take touches in this round, those that were visited took theirs first.
  pub record Going (takes_touches : Bool) (cut : ℕ) (may_count : ℕ → Type 0)
      (old : List (Item K V)) (visited : ℕ) (unpinned : Bool) (now : List (Item K V))
      : Type 0 where
    pub done : List (Item K V)
    pub rest : List (Item K V)
    pub raised : List (Item K V)
    pub split : old ≡ done ++ rest
    pub place : length done ≡ visited
    pub raises : MayRaise takes_touches cut may_count done raised
    pub now_is : now ≡ rest ++ map (lowered 1) raised
    pub seen : Seen raised unpinned

  -- what whole rounds left, none of which met a victim and each of which met an unpinned item
  pub record Rounds (cut : ℕ) (old now : List (Item K V)) (visits : ℕ) : Type 0 where
    pub rounds : ℕ
    pub lowers : now ≡ map (lowered rounds) old
    pub passes : steady → HaveMarks pinned rounds old
    pub some : steady → AreAllPinned pinned old → rounds ≡ 0
    pub within : rounds ≤ cut
    pub counts : visits ≡ rounds * length old

  -- A whole advance between two rounds: before the first one nothing has happened, and from then on
  -- the items took in their touches, and rounds were made of what that left.
  pub record Advancing (takes_touches : Bool) (cut : ℕ) (may_count : ℕ → Type 0)
      (old now : List (Item K V)) (visits : ℕ) : Type 0 where
    pub mid : List (Item K V)
    pub raises : RaisesMarks cut may_count old mid
    pub rounds : Rounds cut mid now visits
    pub first : takes_touches ≡ true → (now ≡ old) × (visits ≡ 0)

  -- a whole advance that met a victim, told of the ring as touches left it
  pub record MeetsVictim (cut : ℕ) (old new : List (Item K V)) (visits : ℕ) : Type 0 where
    pub is_met : steady → IsMet pinned old new visits
    pub victim_first : HasVictimFirst old new
    pub within : visits ≤ (cut + 1) * length old

  -- a whole advance that gave up, told of the ring as touches left it
  pub record GivesUp (cut : ℕ) (old new : List (Item K V)) (visits : ℕ) : Type 0 where
    pub none_unpinned : steady → NoneUnpinned pinned old new visits
    pub is_lowered : IsLowered old new
    pub within : visits ≤ (cut + 1) * length old
