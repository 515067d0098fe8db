-- What a hot advance keeps: each item in its ring, how many there are, their pairs and weights.
use Rattle.std.proofs.Common.{◌≡◌, ℕ, ◌+◌, ◌≤◌, Bool, true, false, cond, List, [], ◌∷◌, ◌++◌, length, map, sum_by, IsPermutation, refl, sym}
use Rattle.std.proofs.Common.{ap, subst, ◌∙◌, arith, length-append}
use Rattle.std.specs.List.{AllByRecursion}
use Rattle.std.proofs.lemmas.List.{length-map, map-append}
use Rattle.std.proofs.lemmas.List.Sorted.{IsPermutation-refl, IsPermutation-trans, IsPermutation-append_comm}
use Rattle.std.proofs.lemmas.List.Sums.{sum_by-append, sum_by-cons}
use Rattle.quick_cache_model.specs.declared.queue.Queue.{Queue}
use Rattle.quick_cache_model.specs.CacheState.{Item, IsRingItem, weight_of}
use Rattle.quick_cache_model.specs.Touches.{with_touches, RaisesMarks}
use Rattle.quick_cache_model.specs.Eviction.{lowered}
use Rattle.quick_cache_model.proofs.TouchLaws.{with_touches-key, with_touches-weight, with_touches-queue, with_touches-mark}
use Rattle.quick_cache_model.specs.Removal.{pair_of}
use Rattle.quick_cache_model.proofs.KeyCounts.{keys}
use Rattle.quick_cache_model.proofs.Residents.{pairs-raised, pairs-lowered}
use Rattle.quick_cache_policy.specs.Rounds.{HaveAtMost, MayRaise, HasVictimFirst, IsLowered, Going, Stopped, Passed, AfterTouches}
use Rattle.quick_cache_policy.specs.Rounds.{EndsAllPinned, EndsSomeUnpinned, EndsAtVictim, MeetsVictim, GivesUp, KeepsItems}
use Rattle.quick_cache_policy.proofs.MarkLemmas.{MayRaise-length}
use Rattle.quick_cache_model.proofs.EachElement.{all-append, all-left, all-right, all-weaker}
use Rattle.quick_cache_policy.proofs.MappedLemmas.{each-mapped}
use Rattle.quick_cache_policy.proofs.RoundLemmas.{rounds-begin, rounds-reach}

-- One round is an advance of that round alone.
module _ {K V : Type 0} (steady : Type 0) (pinned : K → V → Bool) where
  -- a round that stopped left its victim first
  pub Stopped-first : (old new : List (Item K V)) (visits : ℕ)
      → Stopped steady pinned old new visits → HasVictimFirst old new
  Stopped-first old new visits stopped =
      rounds-reach steady pinned 0 old old new 0 visits (rounds-begin steady pinned 0 old) stopped

  -- a round that passed by each item lowered each
  pub Passed-lowered : (old new : List (Item K V)) (visits : ℕ)
      → Passed steady pinned old new visits → IsLowered old new
  Passed-lowered old new visits passed = record { rounds = 1; lowers = passed.lowers }

-- Each item stays in its ring, with a mark up to the greatest.
module _ {K V : Type 0} (cut : ℕ) (queue : Queue) where
  -- the items of a ring have at most the greatest mark
  pub HaveAtMost-ring : (items : List (Item K V)) → AllByRecursion (IsRingItem cut queue) items
      → HaveAtMost cut items
  HaveAtMost-ring = all-weaker (IsRingItem cut queue) (λ item. item.mark ≤ cut)
      (λ item ring. ring.marked)

  -- lowered marks
  pub map_lowered-ring : (n : ℕ) (items : List (Item K V))
      → AllByRecursion (IsRingItem cut queue) items
      → AllByRecursion (IsRingItem cut queue) (map (lowered n) items)
  map_lowered-ring n = each-mapped (IsRingItem cut queue) (IsRingItem cut queue) (lowered n)
      (λ item ring. record {
        weighs = ring.weighs;
        of_queue = ring.of_queue;
        marked = omega (arith, ring.marked);
      })

  -- touches that were taken in
  pub RaisesMarks-ring : (may_count : ℕ → Type 0) (old new : List (Item K V))
      → RaisesMarks cut may_count old new
      → AllByRecursion (IsRingItem cut queue) old → AllByRecursion (IsRingItem cut queue) new
  RaisesMarks-ring may_count [] [] raised ring = tt
  RaisesMarks-ring may_count [] (y ∷ ys) raised ring = absurd raised
  RaisesMarks-ring may_count (x ∷ xs) [] raised ring = absurd raised
  RaisesMarks-ring may_count (x ∷ xs) (y ∷ ys) raised ring = (
    subst (λ (i : Item K V). IsRingItem cut queue i) (sym raised.0.2)
        (record {
          weighs = omega (arith, ring.0.weighs, with_touches-weight cut raised.0.0 x);
          of_queue = with_touches-queue cut raised.0.0 x ∙ ring.0.of_queue;
          marked = with_touches-mark cut raised.0.0 x ring.0.marked;
        }),
    RaisesMarks-ring may_count xs ys raised.1 ring.1,
  )

  -- touches that may be taken in
  pub MayRaise-ring : (takes_touches : Bool) (may_count : ℕ → Type 0) (old new : List (Item K V))
      → MayRaise takes_touches cut may_count old new
      → AllByRecursion (IsRingItem cut queue) old → AllByRecursion (IsRingItem cut queue) new
  MayRaise-ring true may_count old new raises ring =
      RaisesMarks-ring may_count old new raises ring
  MayRaise-ring false may_count old new raises ring =
      subst (λ l. AllByRecursion (IsRingItem cut queue) l) (sym raises) ring

  -- whole rounds
  pub IsLowered-ring : (old new : List (Item K V)) → IsLowered old new
      → AllByRecursion (IsRingItem cut queue) old → AllByRecursion (IsRingItem cut queue) new
  IsLowered-ring old new lower ring =
      subst (λ l. AllByRecursion (IsRingItem cut queue) l) (sym lower.lowers)
      (map_lowered-ring lower.rounds old ring)

  -- rounds that stopped at a victim
  pub HasVictimFirst-ring : (old new : List (Item K V)) → HasVictimFirst old new
      → AllByRecursion (IsRingItem cut queue) old → AllByRecursion (IsRingItem cut queue) new
  HasVictimFirst-ring old new first ring =
      let whole = subst (λ l. AllByRecursion (IsRingItem cut queue) l) first.split ring in
      let front = all-left (IsRingItem cut queue) first.before (first.item ∷ first.after) whole in
      let back = all-right (IsRingItem cut queue) first.before (first.item ∷ first.after) whole in
      subst (λ l. AllByRecursion (IsRingItem cut queue) l) (sym first.turned)
      (all-append (IsRingItem cut queue)
      (map (lowered first.rounds) (first.item ∷ first.after))
      (map (lowered (first.rounds + 1)) first.before)
      (map_lowered-ring first.rounds (first.item ∷ first.after) back)
      (map_lowered-ring (first.rounds + 1) first.before front))

-- Sums over the items of what is not the mark.
module _ {K V : Type 0} (f : Item K V → ℕ)
    (with_mark : (item : Item K V) (n : ℕ) → f (record item { mark = n }) ≡ f item) where
  -- lowered marks
  map_lowered-sum : (n : ℕ) (items : List (Item K V))
      → sum_by f (map (lowered n) items) ≡ sum_by f items
  map_lowered-sum n [] = refl
  map_lowered-sum n (x ∷ xs) = omega (
    arith,
    sum_by-cons f (lowered n x) (map (lowered n) xs),
    sum_by-cons f x xs,
    with_mark x (lowered n x).mark,
    map_lowered-sum n xs,
  )

  -- whole rounds
  IsLowered-sum : (old new : List (Item K V)) → IsLowered old new → sum_by f new ≡ sum_by f old
  IsLowered-sum old new lower = ap (sum_by f) lower.lowers ∙ map_lowered-sum lower.rounds old

  -- rounds that stopped at a victim
  HasVictimFirst-sum : (old new : List (Item K V)) → HasVictimFirst old new
      → sum_by f new ≡ sum_by f old
  HasVictimFirst-sum old new first = omega (
    arith,
    ap (sum_by f) first.turned,
    sum_by-append f (map (lowered first.rounds) (first.item ∷ first.after))
        (map (lowered (first.rounds + 1)) first.before),
    map_lowered-sum first.rounds (first.item ∷ first.after),
    map_lowered-sum (first.rounds + 1) first.before,
    ap (sum_by f) first.split,
    sum_by-append f first.before (first.item ∷ first.after),
  )

  module _ (cut : ℕ) (touched : (n : ℕ) (item : Item K V) → f (with_touches cut n item) ≡ f item)
    where
      -- touches that were taken in
      RaisesMarks-sum : (may_count : ℕ → Type 0) (old new : List (Item K V))
          → RaisesMarks cut may_count old new → sum_by f new ≡ sum_by f old
      RaisesMarks-sum may_count [] [] raised = refl
      RaisesMarks-sum may_count [] (y ∷ ys) raised = absurd raised
      RaisesMarks-sum may_count (x ∷ xs) [] raised = absurd raised
      RaisesMarks-sum may_count (x ∷ xs) (y ∷ ys) raised = omega (
        arith,
        sum_by-cons f x xs,
        sum_by-cons f y ys,
        ap f raised.0.2 ∙ touched raised.0.0 x,
        RaisesMarks-sum may_count xs ys raised.1,
      )

      -- touches that may be taken in
      MayRaise-sum : (takes_touches : Bool) (may_count : ℕ → Type 0) (old new : List (Item K V))
          → MayRaise takes_touches cut may_count old new → sum_by f new ≡ sum_by f old
      MayRaise-sum true may_count old new raises = RaisesMarks-sum may_count old new raises
      MayRaise-sum false may_count old new raises = ap (sum_by f) raises

      -- the middle of a round
      Going-sum : (steady : Type 0) (pinned : K → V → Bool) (takes_touches : Bool)
          (may_count : ℕ → Type 0) (old : List (Item K V)) (visited : ℕ) (unpinned : Bool)
          (now : List (Item K V))
          → Going steady pinned takes_touches cut may_count old visited unpinned now
          → sum_by f now ≡ sum_by f old
      Going-sum steady pinned takes_touches may_count old visited unpinned now g = omega (
        arith,
        ap (sum_by f) g.now_is,
        sum_by-append f g.rest (map (lowered 1) g.raised),
        map_lowered-sum 1 g.raised,
        MayRaise-sum takes_touches may_count g.done g.raised g.raises,
        ap (sum_by f) g.split,
        sum_by-append f g.done g.rest,
      )

-- The keys: how many pass a test.
module _ {K V : Type 0} (test : K → Bool) where
  -- one for an item whose key passes
  one_for : Item K V → ℕ
  one_for item = cond (test item.key) 1 0

  -- it does not go by marks
  one_for-mark : (item : Item K V) (n : ℕ) → one_for (record item { mark = n }) ≡ one_for item
  unfolding one_for
  one_for-mark item n = refl

  -- nor by touches
  one_for-touched : (cut n : ℕ) (item : Item K V) → one_for (with_touches cut n item) ≡ one_for item
  unfolding one_for
  one_for-touched cut n item = ap (λ k. cond (test k) 1 0) (with_touches-key cut n item)

  -- touches that may be taken in
  pub MayRaise-keys : (takes_touches : Bool) (cut : ℕ) (may_count : ℕ → Type 0)
      (old new : List (Item K V))
      → MayRaise takes_touches cut may_count old new → keys test new ≡ keys test old
  unfolding one_for
  MayRaise-keys takes_touches cut =
      MayRaise-sum one_for one_for-mark cut (one_for-touched cut) takes_touches

  -- whole rounds
  pub IsLowered-keys : (old new : List (Item K V)) → IsLowered old new
      → keys test new ≡ keys test old
  unfolding one_for
  IsLowered-keys = IsLowered-sum one_for one_for-mark

  -- rounds that stopped at a victim
  pub HasVictimFirst-keys : (old new : List (Item K V)) → HasVictimFirst old new
      → keys test new ≡ keys test old
  unfolding one_for
  HasVictimFirst-keys = HasVictimFirst-sum one_for one_for-mark

-- The weights.
module _ {K V : Type 0} where
  -- the weight of an item
  weight_alone : Item K V → ℕ
  weight_alone item = item.weight

  -- it does not go by marks
  weight_alone-mark : (item : Item K V) (n : ℕ)
      → weight_alone (record item { mark = n }) ≡ weight_alone item
  unfolding weight_alone
  weight_alone-mark item n = refl

  -- nor by touches
  weight_alone-touched : (cut n : ℕ) (item : Item K V)
      → weight_alone (with_touches cut n item) ≡ weight_alone item
  unfolding weight_alone
  weight_alone-touched cut n item = with_touches-weight cut n item

  -- touches that may be taken in
  pub MayRaise-weight : (takes_touches : Bool) (cut : ℕ) (may_count : ℕ → Type 0)
      (old new : List (Item K V))
      → MayRaise takes_touches cut may_count old new → weight_of new ≡ weight_of old
  unfolding weight_alone
  MayRaise-weight takes_touches cut =
      MayRaise-sum weight_alone weight_alone-mark cut (weight_alone-touched cut) takes_touches

  -- whole rounds
  pub IsLowered-weight : (old new : List (Item K V)) → IsLowered old new
      → weight_of new ≡ weight_of old
  unfolding weight_alone
  IsLowered-weight = IsLowered-sum weight_alone weight_alone-mark

  -- rounds that stopped at a victim
  pub HasVictimFirst-weight : (old new : List (Item K V)) → HasVictimFirst old new
      → weight_of new ≡ weight_of old
  unfolding weight_alone
  HasVictimFirst-weight = HasVictimFirst-sum weight_alone weight_alone-mark

-- The pairs: marks change none, and a turn is another order.
module _ {K V : Type 0} where
  -- touches that may be taken in
  MayRaise-pairs : (takes_touches : Bool) (cut : ℕ) (may_count : ℕ → Type 0)
      (old new : List (Item K V)) → MayRaise takes_touches cut may_count old new
      → map pair_of old ≡ map pair_of new
  MayRaise-pairs true cut may_count old new raises = pairs-raised cut may_count old new raises
  MayRaise-pairs false cut may_count old new raises = ap (map pair_of) (sym raises)

  -- the same pairs are the same in some order
  same-order : (old new : List (Item K V)) → map pair_of old ≡ map pair_of new
      → IsPermutation (map pair_of old) (map pair_of new)
  same-order old new same = subst (λ ps. IsPermutation (map pair_of old) ps) same
      (IsPermutation-refl (map pair_of old))

  -- whole rounds
  IsLowered-pairs : (old new : List (Item K V)) → IsLowered old new
      → map pair_of old ≡ map pair_of new
  IsLowered-pairs old new lower =
      sym (ap (map pair_of) lower.lowers ∙ pairs-lowered lower.rounds old)

  -- rounds that stopped at a victim
  HasVictimFirst-pairs : (old new : List (Item K V)) → HasVictimFirst old new
      → IsPermutation (map pair_of old) (map pair_of new)
  HasVictimFirst-pairs old new first =
      let front = map pair_of first.before in
      let back = map pair_of (first.item ∷ first.after) in
      let was : map pair_of old ≡ front ++ back =
      ap (map pair_of) first.split ∙ map-append pair_of first.before (first.item ∷ first.after) in
      let is : map pair_of new ≡ back ++ front =
      ap (map pair_of) first.turned
      ∙ map-append pair_of (map (lowered first.rounds) (first.item ∷ first.after))
      (map (lowered (first.rounds + 1)) first.before)
      ∙ (λ i. pairs-lowered first.rounds (first.item ∷ first.after) i
      ++ pairs-lowered (first.rounds + 1) first.before i) in
      subst (λ ps. IsPermutation ps (map pair_of new)) (sym was)
      (subst (λ ps. IsPermutation (front ++ back) ps) (sym is)
      (IsPermutation-append_comm front back))

-- How many items there are.
module _ {K V : Type 0} where
  -- after whole rounds
  pub IsLowered-length : (old new : List (Item K V)) → IsLowered old new → length new ≡ length old
  IsLowered-length old new lower = ap length lower.lowers ∙ length-map old (lowered lower.rounds)

  -- after rounds that stopped at a victim
  pub HasVictimFirst-length : (old new : List (Item K V)) → HasVictimFirst old new
      → length new ≡ length old
  HasVictimFirst-length old new first = omega (
    arith,
    ap length first.turned,
    length-append (map (lowered first.rounds) (first.item ∷ first.after))
        (map (lowered (first.rounds + 1)) first.before),
    length-map first.after (lowered first.rounds),
    length-map first.before (lowered (first.rounds + 1)),
    ap length first.split,
    length-append first.before (first.item ∷ first.after),
  )

-- All of these at once.
module _ {K V : Type 0} (cut : ℕ) where
  -- touches that may be taken in
  pub MayRaise-keeps : (takes_touches : Bool) (may_count : ℕ → Type 0) (old new : List (Item K V))
      → MayRaise takes_touches cut may_count old new → KeepsItems cut old new
  MayRaise-keeps takes_touches may_count old new raises = record {
    ring = λ queue. MayRaise-ring cut queue takes_touches may_count old new raises;
    same_keys = λ test. MayRaise-keys test takes_touches cut may_count old new raises;
    same_pairs = same-order old new (MayRaise-pairs takes_touches cut may_count old new raises);
    same_weight = MayRaise-weight takes_touches cut may_count old new raises;
    same_length = MayRaise-length cut may_count takes_touches old new raises;
  }

  -- whole rounds
  pub IsLowered-keeps : (old new : List (Item K V)) → IsLowered old new → KeepsItems cut old new
  IsLowered-keeps old new lower = record {
    ring = λ queue. IsLowered-ring cut queue old new lower;
    same_keys = λ test. IsLowered-keys test old new lower;
    same_pairs = same-order old new (IsLowered-pairs old new lower);
    same_weight = IsLowered-weight old new lower;
    same_length = IsLowered-length old new lower;
  }

  -- rounds that stopped at a victim
  pub HasVictimFirst-keeps : (old new : List (Item K V)) → HasVictimFirst old new
      → KeepsItems cut old new
  HasVictimFirst-keeps old new first = record {
    ring = λ queue. HasVictimFirst-ring cut queue old new first;
    same_keys = λ test. HasVictimFirst-keys test old new first;
    same_pairs = HasVictimFirst-pairs old new first;
    same_weight = HasVictimFirst-weight old new first;
    same_length = HasVictimFirst-length old new first;
  }

  -- one step and then another
  pub KeepsItems-trans : (old mid new : List (Item K V)) → KeepsItems cut old mid
      → KeepsItems cut mid new → KeepsItems cut old new
  KeepsItems-trans old mid new a b = record {
    ring = λ queue ring. b.ring queue (a.ring queue ring);
    same_keys = λ test. b.same_keys test ∙ a.same_keys test;
    same_pairs = IsPermutation-trans (map pair_of old) (map pair_of mid) (map pair_of new)
        a.same_pairs b.same_pairs;
    same_weight = b.same_weight ∙ a.same_weight;
    same_length = b.same_length ∙ a.same_length;
  }

  module _ (steady : Type 0) (pinned : K → V → Bool) (takes_touches : Bool)
      (may_count : ℕ → Type 0) (old new : List (Item K V)) (visits : ℕ) where
    -- the three ends of a round
    pub EndsAllPinned-keeps : AfterTouches takes_touches cut may_count old
        (λ mid. EndsAllPinned steady pinned mid new visits) → KeepsItems cut old new
    EndsAllPinned-keeps a = KeepsItems-trans old a.mid new
        (MayRaise-keeps takes_touches may_count old a.mid a.raises)
        (IsLowered-keeps a.mid new (Passed-lowered steady pinned a.mid new visits a.holds.0))

    pub EndsSomeUnpinned-keeps : AfterTouches takes_touches cut may_count old
        (λ mid. EndsSomeUnpinned steady pinned mid new visits) → KeepsItems cut old new
    EndsSomeUnpinned-keeps a = KeepsItems-trans old a.mid new
        (MayRaise-keeps takes_touches may_count old a.mid a.raises)
        (IsLowered-keeps a.mid new (Passed-lowered steady pinned a.mid new visits a.holds.0))

    pub EndsAtVictim-keeps : AfterTouches takes_touches cut may_count old
        (λ mid. EndsAtVictim steady pinned mid new visits) → KeepsItems cut old new
    EndsAtVictim-keeps a = KeepsItems-trans old a.mid new
        (MayRaise-keeps takes_touches may_count old a.mid a.raises)
        (HasVictimFirst-keeps a.mid new (Stopped-first steady pinned a.mid new visits a.holds))

    -- the two ends of a whole advance
    pub MeetsVictim-keeps : AfterTouches takes_touches cut may_count old
        (λ mid. MeetsVictim steady pinned cut mid new visits) → KeepsItems cut old new
    MeetsVictim-keeps a = KeepsItems-trans old a.mid new
        (MayRaise-keeps takes_touches may_count old a.mid a.raises)
        (HasVictimFirst-keeps a.mid new a.holds.victim_first)

    pub GivesUp-keeps : AfterTouches takes_touches cut may_count old
        (λ mid. GivesUp steady pinned cut mid new visits) → KeepsItems cut old new
    GivesUp-keeps a = KeepsItems-trans old a.mid new
        (MayRaise-keeps takes_touches may_count old a.mid a.raises)
        (IsLowered-keeps a.mid new a.holds.is_lowered)
