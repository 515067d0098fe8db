-- Items that a walk shows to a predicate, so many at a time.
use Rattle.std.proofs.Common.{◌≡◌, ◌⊎◌, inl, inr, ℕ, Bool, true, false, List, [], ◌∷◌, ◌++◌, Option, Some, None, MatchOption, refl, sym, ap}
use Rattle.std.proofs.Common.{subst, ◌∙◌, arith}
use Rattle.std.specs.List.{AllByRecursion, Contains}
use Rattle.std.specs.declared.num.NonZeroU32.{NonZeroU32 as Token}
use Rattle.std.proofs.lemmas.Bool.{cases_lt}
use Rattle.std.proofs.lemmas.List.Elements.{Contains-append_left, Contains-append_right, Contains-append_cases}
use Rattle.std.proofs.lemmas.List.Sorted.{Contains-permutation, IsPermutation-sym}
use Rattle.quick_cache_model.specs.CacheState.{CacheState, Item, Place, InHot, InCold, InStill, IsValid, items_at, with_items}
use Rattle.quick_cache_model.specs.Finding.{HasNoItem}
use Rattle.quick_cache_model.proofs.EachElement.{all-middle}
use Rattle.quick_cache_model.proofs.KeyCounts.{keys, keys-split, keys-append, none-from_keys, one_if}
use Rattle.quick_cache_model.proofs.LookupLaws.{same_everywhere}
use Rattle.quick_cache_policy.specs.Predicates.{StayAsAnswered, RetainsAsked}
use Rattle.quick_cache_policy.specs.Tokens.{TakesItem}
use Rattle.quick_cache_policy.proofs.WrittenPlaces.{Contains-later}
use Rattle.quick_cache_shard.specs.PlaceWalks.{IsNextPlace, EndsAt}
use Rattle.quick_cache_shard.specs.RetainsSome.{Passes, HasPassed, StaysIfPassed, RetainsTo, RetainsSome}
use Rattle.quick_cache_shard.specs.Shard.{Shard, IsSoundShard, IsFree, LeavesPlace, residents}
use Rattle.quick_cache_shard.specs.Stays.{IdlesWithin}
use Rattle.quick_cache_shard.proofs.DrainLemmas.{residents-taken}
use Rattle.quick_cache_shard.proofs.PlaceLemmas.{Contains-first, Contains-cons_cases}

-- an element of a list stands between two others
Contains-split : {X : Type 0} (xs : List X) (x : X) → Contains xs x
    → (before : List X) × (after : List X) × (xs ≡ before ++ x ∷ after)
Contains-split [] x there = absurd (omega (arith, there.1))
Contains-split (y ∷ ys) x there = elim (Contains-cons_cases y ys x there) [
  | inl is ↦ ([], ys, ap (λ z. z ∷ ys) is)
  | inr later ↦
      let of = Contains-split ys x later in (y ∷ of.0, of.1, ap (λ zs. y ∷ zs) of.2)
]

Contains-middle : {X : Type 0} (before : List X) (x : X) (after : List X)
    → Contains (before ++ x ∷ after) x
Contains-middle before x after =
    Contains-append_right before (x ∷ after) x (Contains-first x after)

module _ {K V : Type 0} where
  -- an item of a place is a resident
  at-resident : (state : CacheState K V) (place : Place) (item : Item K V)
      → Contains (items_at place state) item → Contains (residents state) item
  at-resident state InHot item there =
      Contains-append_left (state.hot ++ state.cold) state.still item
      (Contains-append_left state.hot state.cold item there)
  at-resident state InCold item there =
      Contains-append_left (state.hot ++ state.cold) state.still item
      (Contains-append_right state.hot state.cold item there)
  at-resident state InStill item there =
      Contains-append_right (state.hot ++ state.cold) state.still item there

  -- and a resident stands at a place
  resident-at : (state : CacheState K V) (item : Item K V) → Contains (residents state) item
      → (place : Place) × Contains (items_at place state) item
  resident-at state item there =
      elim (Contains-append_cases (state.hot ++ state.cold) state.still item there) [
        | inl of_rings ↦ elim (Contains-append_cases state.hot state.cold item of_rings) [
          | inl of_hot ↦ (InHot, of_hot)
          | inr of_cold ↦ (InCold, of_cold)
        ]
        | inr of_still ↦ (InStill, of_still)
      ]

module _ {K V : Type 0} (equal : K → K → Bool) (reflexive : (k : K) → equal k k ≡ true)
    (state : CacheState K V) (valid : IsValid equal state) where
  -- two residents of one key are one
  pub resident-same : (item other : Item K V) → Contains (residents state) item
      → Contains (residents state) other → other.key ≡ item.key → other ≡ item
  resident-same item other there also same =
      let at = resident-at state item there in
      let of = Contains-split (items_at at.0 state) item at.1 in
      let also_at = resident-at state other also in
      let also_of = Contains-split (items_at also_at.0 state) other also_at.1 in
      same_everywhere (equal item.key) state (valid.one_entry_a_key item.key) also_at.0 at.0
      also_of.0 other also_of.1 of.0 item of.1
      (record { split = also_of.2; passes = ap (equal item.key) same ∙ reflexive item.key })
      (record { split = of.2; passes = reflexive item.key })

  -- where one went no other has its key
  taken-none : (pair : K × V) (new : CacheState K V) → TakesItem state pair new
      → HasNoItem (equal pair.0) new
  taken-none pair new takes = subst (λ (s : CacheState K V). HasNoItem (equal pair.0) s)
      (sym takes.rest) (go takes.place takes.before takes.item takes.after takes.split
      (ap (equal pair.0) (sym (ap (λ (p : K × V). p.0) takes.gives)) ∙ reflexive pair.0))
    where
      go : (place : Place) (before : List (Item K V)) (item : Item K V) (after : List (Item K V))
          → items_at place state ≡ before ++ item ∷ after → equal pair.0 item.key ≡ true
          → HasNoItem (equal pair.0) (with_items place (before ++ after) state)
      go InHot before item after split is =
          let one = valid.one_entry_a_key pair.0 in
          let counts = ap (keys (equal pair.0)) split ∙ keys-split (equal pair.0) before item after in
          let here = ap one_if is in
          let left = keys-append (equal pair.0) before after in
          record {
            hot = none-from_keys (equal pair.0) (before ++ after) (omega (arith, one, counts, here, left));
            cold = none-from_keys (equal pair.0) state.cold (omega (arith, one, counts, here));
            still = none-from_keys (equal pair.0) state.still (omega (arith, one, counts, here));
          }
      go InCold before item after split is =
          let one = valid.one_entry_a_key pair.0 in
          let counts = ap (keys (equal pair.0)) split ∙ keys-split (equal pair.0) before item after in
          let here = ap one_if is in
          let left = keys-append (equal pair.0) before after in
          record {
            hot = none-from_keys (equal pair.0) state.hot (omega (arith, one, counts, here));
            cold = none-from_keys (equal pair.0) (before ++ after) (omega (arith, one, counts, here, left));
            still = none-from_keys (equal pair.0) state.still (omega (arith, one, counts, here));
          }
      go InStill before item after split is =
          let one = valid.one_entry_a_key pair.0 in
          let counts = ap (keys (equal pair.0)) split ∙ keys-split (equal pair.0) before item after in
          let here = ap one_if is in
          let left = keys-append (equal pair.0) before after in
          record {
            hot = none-from_keys (equal pair.0) state.hot (omega (arith, one, counts, here));
            cold = none-from_keys (equal pair.0) state.cold (omega (arith, one, counts, here));
            still = none-from_keys (equal pair.0) (before ++ after) (omega (arith, one, counts, here, left));
          }

module _ {K V : Type 0} (first second : K → V → Bool → Type 0) where
  -- what was answered may be said in other words, at the items that are left
  StayAsAnswered-told : (olds news : List (Item K V)) → StayAsAnswered first olds news
      → ((item : Item K V) → Contains news item → first item.key item.value true
      → second item.key item.value true)
      → ((key : K) (value : V) → first key value false → second key value false)
      → StayAsAnswered second olds news
  StayAsAnswered-told _ _ StayAsAnswered.ends stay go = StayAsAnswered.ends
  StayAsAnswered-told _ _ (StayAsAnswered.stays item olds news said rest) stay go =
      StayAsAnswered.stays item olds news (stay item (Contains-first item news) said)
      (StayAsAnswered-told olds news rest
      (λ other there. stay other (Contains-later item news other there)) go)
  StayAsAnswered-told _ _ (StayAsAnswered.goes item olds news said rest) stay go =
      StayAsAnswered.goes item olds news (go item.key item.value said)
      (StayAsAnswered-told olds news rest stay go)

  -- the same where one more goes
  StayAsAnswered-less : (olds news : List (Item K V)) → StayAsAnswered first olds news
      → (before : List (Item K V)) (gone : Item K V) (after : List (Item K V))
      → news ≡ before ++ gone ∷ after
      → ((item : Item K V) → Contains (before ++ after) item → first item.key item.value true
      → second item.key item.value true)
      → ((key : K) (value : V) → first key value false → second key value false)
      → second gone.key gone.value false → StayAsAnswered second olds (before ++ after)
  StayAsAnswered-less _ _ StayAsAnswered.ends [] gone after split stay go said = absurd (cc)
  StayAsAnswered-less _ _ StayAsAnswered.ends (x ∷ before) gone after split stay go said = absurd (cc)
  StayAsAnswered-less _ _ (StayAsAnswered.stays item olds news was rest) [] gone after split stay go
      said =
      let is : item ≡ gone = cc in
      let tail : news ≡ after = cc in
      StayAsAnswered.goes item olds after
      (subst (λ (i : Item K V). second i.key i.value false) (sym is) said)
      (subst (λ (l : List (Item K V)). StayAsAnswered second olds l) tail
      (StayAsAnswered-told olds news rest
      (λ other there. stay other (subst (λ (l : List (Item K V)). Contains l other) tail there)) go))
  StayAsAnswered-less _ _ (StayAsAnswered.stays item olds news was rest) (x ∷ before) gone after split
      stay go said =
      let is : item ≡ x = cc in
      let tail : news ≡ before ++ gone ∷ after = cc in
      subst (λ (i : Item K V). StayAsAnswered second (item ∷ olds) (i ∷ before ++ after)) is
      (StayAsAnswered.stays item olds (before ++ after)
      (stay item (subst (λ (i : Item K V). Contains (x ∷ before ++ after) i) (sym is)
      (Contains-first x (before ++ after))) was)
      (StayAsAnswered-less olds news rest before gone after tail
      (λ other there. stay other (Contains-later x (before ++ after) other there)) go said))
  StayAsAnswered-less _ _ (StayAsAnswered.goes item olds news was rest) before gone after split stay
      go said =
      StayAsAnswered.goes item olds (before ++ after) (go item.key item.value was)
      (StayAsAnswered-less olds news rest before gone after split stay go said)

-- an element that is left was there
StayAsAnswered-was : {K V : Type 0} (answers : K → V → Bool → Type 0) (olds news : List (Item K V))
    → StayAsAnswered answers olds news → (item : Item K V) → Contains news item → Contains olds item
StayAsAnswered-was answers _ _ StayAsAnswered.ends item there = there
StayAsAnswered-was answers _ _ (StayAsAnswered.stays first olds news said rest) item there =
    elim (Contains-cons_cases first news item there) [
      | inl is ↦ subst (λ i. Contains (first ∷ olds) i) is (Contains-first first olds)
      | inr later ↦ Contains-later first olds item (StayAsAnswered-was answers olds news rest item later)
    ]
StayAsAnswered-was answers _ _ (StayAsAnswered.goes first olds news said rest) item there =
    Contains-later first olds item (StayAsAnswered-was answers olds news rest item there)

-- what holds of each element holds of one of them
all-contained : {X : Type 0} (P : X → Type 0) (xs : List X) → AllByRecursion P xs → (x : X)
    → Contains xs x → P x
all-contained P xs all x there =
    let of = Contains-split xs x there in
    all-middle P of.0 x of.1 (subst (λ l. AllByRecursion P l) of.2 all)

-- no resident has a key of which there is no item
none-resident : {K V : Type 0} (test : K → Bool) (state : CacheState K V) → HasNoItem test state
    → (item : Item K V) → Contains (residents state) item → test item.key ≡ false
none-resident {K} {V} test state none item there = go (resident-at state item there).0 (resident-at state item there).1
  where
    go : (place : Place) → Contains (items_at place state) item → test item.key ≡ false
    go InHot at = all-contained (λ (i : Item K V). test i.key ≡ false) state.hot none.hot item at
    go InCold at = all-contained (λ (i : Item K V). test i.key ≡ false) state.cold none.cold item at
    go InStill at = all-contained (λ (i : Item K V). test i.key ≡ false) state.still none.still item at

module _ {K V : Type 0} (first second : K → V → Bool → Type 0)
    (go : (key : K) (value : V) → first key value false → second key value false)
    (old mid : CacheState K V) (retains : RetainsAsked first old mid) where
  -- the same of a whole cache
  RetainsAsked-told : ((item : Item K V) → Contains (residents mid) item
      → first item.key item.value true → second item.key item.value true)
      → RetainsAsked second old mid
  RetainsAsked-told stay = record {
    hot = StayAsAnswered-told first second old.hot mid.hot retains.hot
        (λ item there. stay item (at-resident mid InHot item there)) go;
    cold = StayAsAnswered-told first second old.cold mid.cold retains.cold
        (λ item there. stay item (at-resident mid InCold item there)) go;
    still = StayAsAnswered-told first second old.still mid.still retains.still
        (λ item there. stay item (at-resident mid InStill item there)) go;
    same = retains.same;
  }

  -- and where one more item goes
  RetainsAsked-less : (pair : K × V) (new : CacheState K V) → (takes : TakesItem mid pair new)
      → second takes.item.key takes.item.value false
      → ((item : Item K V) → Contains (residents new) item
      → first item.key item.value true → second item.key item.value true)
      → RetainsAsked second old new
  RetainsAsked-less pair new takes said stay =
      subst (λ (s : CacheState K V). RetainsAsked second old s) (sym takes.rest)
      (at takes.place takes.before takes.item takes.after takes.split said
      (subst (λ (s : CacheState K V). (item : Item K V) → Contains (residents s) item
      → first item.key item.value true → second item.key item.value true) takes.rest stay))
    where
      at : (place : Place) (before : List (Item K V)) (gone : Item K V) (after : List (Item K V))
          → items_at place mid ≡ before ++ gone ∷ after → second gone.key gone.value false
          → ((item : Item K V) → Contains (residents (with_items place (before ++ after) mid)) item
          → first item.key item.value true → second item.key item.value true)
          → RetainsAsked second old (with_items place (before ++ after) mid)
      at InHot before gone after split said_no keep =
          let new' : CacheState K V = with_items InHot (before ++ after) mid in record {
            hot = StayAsAnswered-less first second old.hot mid.hot retains.hot before gone after split
                (λ item there. keep item (at-resident new' InHot item there)) go said_no;
            cold = StayAsAnswered-told first second old.cold mid.cold retains.cold
                (λ item there. keep item (at-resident new' InCold item there)) go;
            still = StayAsAnswered-told first second old.still mid.still retains.still
                (λ item there. keep item (at-resident new' InStill item there)) go;
            same = ap (λ (s : CacheState K V). record s { hot = before ++ after }) retains.same;
          }
      at InCold before gone after split said_no keep =
          let new' : CacheState K V = with_items InCold (before ++ after) mid in record {
            hot = StayAsAnswered-told first second old.hot mid.hot retains.hot
                (λ item there. keep item (at-resident new' InHot item there)) go;
            cold = StayAsAnswered-less first second old.cold mid.cold retains.cold before gone after
                split (λ item there. keep item (at-resident new' InCold item there)) go said_no;
            still = StayAsAnswered-told first second old.still mid.still retains.still
                (λ item there. keep item (at-resident new' InStill item there)) go;
            same = ap (λ (s : CacheState K V). record s { cold = before ++ after }) retains.same;
          }
      at InStill before gone after split said_no keep =
          let new' : CacheState K V = with_items InStill (before ++ after) mid in record {
            hot = StayAsAnswered-told first second old.hot mid.hot retains.hot
                (λ item there. keep item (at-resident new' InHot item there)) go;
            cold = StayAsAnswered-told first second old.cold mid.cold retains.cold
                (λ item there. keep item (at-resident new' InCold item there)) go;
            still = StayAsAnswered-less first second old.still mid.still retains.still before gone
                after split (λ item there. keep item (at-resident new' InStill item there)) go said_no;
            same = ap (λ (s : CacheState K V). record s { still = before ++ after }) retains.same;
          }

-- an item of which nothing was asked stays
StayAsAnswered-all : {K V : Type 0} (answers : K → V → Bool → Type 0)
    → ((key : K) (value : V) → answers key value true) → (items : List (Item K V))
    → StayAsAnswered answers items items
StayAsAnswered-all answers stay [] = StayAsAnswered.ends
StayAsAnswered-all answers stay (item ∷ items) =
    StayAsAnswered.stays item items items (stay item.key item.value)
    (StayAsAnswered-all answers stay items)

-- a predicate that may be called at each item may be called at those that are left
asked-still : {K V : Type 0} (may : K → V → Type 0) (answers : K → V → Bool → Type 0)
    (old new : CacheState K V) → RetainsAsked answers old new
    → ((place : Place) (before : List (Item K V)) (item : Item K V) (after : List (Item K V))
    → items_at place old ≡ before ++ item ∷ after → may item.key item.value)
    → (place : Place) (before : List (Item K V)) (item : Item K V) (after : List (Item K V))
    → items_at place new ≡ before ++ item ∷ after → may item.key item.value
asked-still {K} {V} may answers old new retains each place before item after split =
    go place (subst (λ l. Contains l item) (sym split) (Contains-middle before item after))
  where
    of : (at : Place) → Contains (items_at at old) item → may item.key item.value
    of at there =
        let parts = Contains-split (items_at at old) item there in
        each at parts.0 item parts.1 parts.2

    go : (at : Place) → Contains (items_at at new) item → may item.key item.value
    go InHot there = of InHot (StayAsAnswered-was answers old.hot new.hot retains.hot item there)
    go InCold there = of InCold (StayAsAnswered-was answers old.cold new.cold retains.cold item there)
    go InStill there = of InStill
        (StayAsAnswered-was answers old.still new.still retains.still item there)

module _ {K V We B L : Type 0} (equal : K → K → Bool) where
  -- what leaves a token has the key of the item that stood there
  key-taken : (old : Shard K V We B L) → IsSoundShard equal old → (token : ℕ) (item : Item K V)
      → Contains old.places (token, item.key) → (new : Shard K V We B L) (pair : K × V)
      → LeavesPlace old token pair.0 new → pair.0 ≡ item.key
  key-taken old sound token item place new pair leaves =
      sound.places.one_key (token, pair.0) (token, item.key)
      (Contains-permutation ((token, pair.0) ∷ new.places) old.places (token, pair.0)
      (IsPermutation-sym old.places ((token, pair.0) ∷ new.places) leaves)
      (Contains-first (token, pair.0) new.places)) place refl

  -- and is that item
  pub item-taken : ((k : K) → equal k k ≡ true) → (old : Shard K V We B L)
      → (sound : IsSoundShard equal old) → (token : ℕ) (item : Item K V)
      → Contains old.places (token, item.key) → Contains (residents old.state) item
      → (new : Shard K V We B L) (pair : K × V) → (takes : TakesItem old.state pair new.state)
      → LeavesPlace old token pair.0 new → takes.item ≡ item
  item-taken reflexive old sound token item place there new pair takes leaves =
      resident-same equal reflexive old.state sound.valid item takes.item there
      (at-resident old.state takes.place takes.item
      (subst (λ l. Contains l takes.item) (sym takes.split)
      (Contains-middle takes.before takes.item takes.after)))
      (sym (ap (λ (p : K × V). p.0) takes.gives)
      ∙ key-taken old sound token item place new pair leaves)

-- The item of the least token behind is passed: it stays where it was answered yes, and goes where it
-- was answered no.
pub record PassesItem {K V We B L : Type 0} (answers : K → V → Bool → Type 0) (after : ℕ)
    (old : Shard K V We B L) (token : ℕ) (new : Shard K V We B L) : Type 0 where
  pub item : Item K V
  pub next : IsNextPlace old.places after (token, item.key)
  pub there : Contains (residents old.state) item
  pub asks : (answers item.key item.value true × (new ≡ old))
      ⊎ (answers item.key item.value false × ((pair : K × V)
      × TakesItem old.state pair new.state × LeavesPlace old token pair.0 new))

module _ {K V We B L : Type 0} (answers : K → V → Bool → Type 0) (after : ℕ)
    (old : Shard K V We B L) where
  -- nothing was passed
  pub RetainsTo-none : RetainsTo answers after old [] after old
  RetainsTo-none = record {
    passes = Passes.none;
    retains = record {
      hot = StayAsAnswered-all (StaysIfPassed answers []) unpassed old.state.hot;
      cold = StayAsAnswered-all (StaysIfPassed answers []) unpassed old.state.cold;
      still = StayAsAnswered-all (StaysIfPassed answers []) unpassed old.state.still;
      same = refl;
    };
    loses = λ place there. there;
    ahead = λ place there above. there;
  }
    where
      unpassed : (key : K) (value : V) → HasPassed [] key → answers key value true
      unpassed key value has = absurd (omega (arith, has.1.1))

  module _ (equal : K → K → Bool) (reflexive : (k : K) → equal k k ≡ true)
      (passed : List (ℕ × K)) (last : ℕ) (mid : Shard K V We B L)
      (to : RetainsTo answers after old passed last mid) where
    -- where none is left behind there was none
    pub RetainsTo-ends : EndsAt mid.places last → EndsAt old.places last
    RetainsTo-ends ends other there = elim (cases_lt last other.0) [
      | inl above ↦ absurd (omega (arith, above, ends other (to.ahead other there above)))
      | inr below ↦ omega (arith, below)
    ]

    module _ (sound : IsSoundShard equal mid) (token : ℕ) (new : Shard K V We B L)
        (passes : PassesItem answers last mid token new) where
      -- the next one
      abbrev pub place : ℕ × K
      place = (token, passes.item.key)

      next : IsNextPlace old.places last place
      next = record {
        there = to.loses place passes.next.there;
        above = passes.next.above;
        least = λ other there above. passes.next.least other (to.ahead other there above) above;
      }

      gone : (key : K) (value : V) → StaysIfPassed answers passed key value false
          → StaysIfPassed answers (place ∷ passed) key value false
      gone key value was = ((was.0.0, Contains-later place passed (was.0.0, key) was.0.1), was.1)

      -- an item that is left stays as the next one does, if it is that
      stays : (item : Item K V) → (item.key ≡ passes.item.key → answers item.key item.value true)
          → StaysIfPassed answers passed item.key item.value true
          → StaysIfPassed answers (place ∷ passed) item.key item.value true
      stays item is_next was has = elim (Contains-cons_cases place passed (has.0, item.key) has.1) [
        | inl is ↦ is_next (sym (ap (λ (p : ℕ × K). p.1) is))
        | inr later ↦ was (has.0, later)
      ]

      -- it is passed, too
      pub RetainsTo-next : RetainsTo answers after old (place ∷ passed) token new
      RetainsTo-next = elim passes.asks [
        | inl kept ↦ subst (λ (s : Shard K V We B L).
            RetainsTo answers after old (place ∷ passed) token s) (sym kept.1) (record {
              passes = Passes.next passed last place to.passes next;
              retains = RetainsAsked-told (StaysIfPassed answers passed)
                  (StaysIfPassed answers (place ∷ passed)) gone old.state mid.state to.retains
                  (λ item there. stays item (λ same.
                  subst (λ (i : Item K V). answers i.key i.value true)
                  (sym (resident-same equal reflexive mid.state sound.valid passes.item item
                  passes.there there same)) kept.0));
              loses = to.loses;
              ahead = λ other there above. to.ahead other there
                  (omega (arith, above, passes.next.above));
            })
        | inr dropped ↦
            let pair = dropped.1.0 in
            let takes = dropped.1.1 in
            let leaves = dropped.1.2 in
            let key : pair.0 ≡ passes.item.key =
            key-taken equal mid sound token passes.item passes.next.there new pair leaves in
            let one : takes.item ≡ passes.item =
            item-taken equal reflexive mid sound token passes.item passes.next.there
            passes.there new pair takes leaves in
            record {
              passes = Passes.next passed last place to.passes next;
              retains = RetainsAsked-less (StaysIfPassed answers passed)
                  (StaysIfPassed answers (place ∷ passed)) gone old.state mid.state to.retains pair
                  new.state takes
                  (subst (λ (i : Item K V). StaysIfPassed answers (place ∷ passed) i.key i.value false)
                  (sym one) ((token, Contains-first place passed), dropped.0))
                  (λ item there. stays item (λ same. absurd (differ
                  (sym (reflexive pair.0) ∙ ap (equal pair.0) (key ∙ sym same)
                  ∙ none-resident (equal pair.0) new.state
                  (taken-none equal reflexive mid.state sound.valid pair new.state takes) item
                  there))));
              loses = λ other there. to.loses other
                  (Contains-permutation ((token, pair.0) ∷ new.places) mid.places other
                  (IsPermutation-sym mid.places ((token, pair.0) ∷ new.places) leaves)
                  (Contains-later (token, pair.0) new.places other there));
              ahead = λ other there above.
                  elim (Contains-cons_cases (token, pair.0) new.places other
                  (Contains-permutation mid.places ((token, pair.0) ∷ new.places) other leaves
                  (to.ahead other there (omega (arith, above, passes.next.above))))) [
                    | inl is ↦ absurd (omega (arith, above, ap (λ (p : ℕ × K). p.0) is))
                    | inr rest ↦ rest
                  ];
            }
      ]
        where
          differ : true ≡ false → ⊥
          differ never = absurd cc

module _ {K V We B L : Type 0} (answers : K → V → Bool → Type 0) (after : ℕ)
    (old : Shard K V We B L) (may : K → V → Type 0)
    (each : (place : Place) (before : List (Item K V)) (item : Item K V) (behind : List (Item K V))
    → items_at place old.state ≡ before ++ item ∷ behind → may item.key item.value)
    (passed : List (ℕ × K)) (last : ℕ) (new : Shard K V We B L)
    (to : RetainsTo answers after old passed last new) where
  -- what may be asked of each item may be asked of those that are left
  pub RetainsTo-asked : (place : Place) (before : List (Item K V)) (item : Item K V)
      (behind : List (Item K V)) → items_at place new.state ≡ before ++ item ∷ behind
      → may item.key item.value
  RetainsTo-asked = asked-still may (StaysIfPassed answers passed) old.state new.state to.retains each

-- what two steps leave that did no work which is counted
pub IdlesWithin-after : {K V We B L : Type 0} (equal : K → K → Bool) (old mid new : Shard K V We B L)
    → IdlesWithin equal 0 old mid → IdlesWithin equal 0 mid new → IdlesWithin equal 0 old new
IdlesWithin-after {K} {V} {We} {B} {L} equal old mid new first second = record {
  room = omega (arith, first.room, second.room);
  same = second.same ∙ ap (λ (s : Shard K V We B L). record s {
    state = new.state;
    places = new.places;
    room = new.room;
  }) first.same;
  sound = second.sound;
}

-- what was answered may be said in weaker words
pub RetainsSome-told : {K V We B L : Type 0} (first second : K → V → Bool → Type 0)
    → ((key : K) (value : V) (answer : Bool) → first key value answer → second key value answer)
    → (after : ℕ) (old : Shard K V We B L) (at_most : ℕ) (answer : Option Token × ℕ)
    (new : Shard K V We B L) → RetainsSome first after old at_most answer new
    → RetainsSome second after old at_most answer new
RetainsSome-told first second says after old at_most answer new some = record {
  passed = some.passed;
  last = some.last;
  retains = record {
    passes = some.retains.passes;
    retains = RetainsAsked-told (StaysIfPassed first some.passed)
        (StaysIfPassed second some.passed)
        (λ key value was. (was.0, says key value false was.1)) old.state new.state
        some.retains.retains
        (λ item there was has. says item.key item.value true (was has));
    loses = some.retains.loses;
    ahead = some.retains.ahead;
  };
  stops = some.stops;
  counts = some.counts;
}

-- what is taken out from where an item stands
pub token-taken : {K V We B L : Type 0} (old new : Shard K V We B L) (token : ℕ) (key : K)
    → Contains old.places (token, key) → (taken : Option (K × V))
    → MatchOption taken (new.state ≡ old.state) (λ pair. TakesItem old.state pair new.state)
    → MatchOption taken (IsFree old token × (new ≡ old)) (λ pair. LeavesPlace old token pair.0 new)
    → (pair : K × V) × TakesItem old.state pair new.state × LeavesPlace old token pair.0 new
token-taken old new token key there None takes leaves = absurd (leaves.0 key there)
token-taken old new token key there (Some pair) takes leaves = (pair, takes, leaves)

-- a predicate that may be called at each item may be called at a resident
pub asked-there : {K V : Type 0} (may : K → V → Type 0) (state : CacheState K V)
    → ((place : Place) (before : List (Item K V)) (item : Item K V) (after : List (Item K V))
    → items_at place state ≡ before ++ item ∷ after → may item.key item.value)
    → (item : Item K V) → Contains (residents state) item → may item.key item.value
asked-there may state each item there =
    let at = resident-at state item there in
    let of = Contains-split (items_at at.0 state) item at.1 in
    each at.0 of.0 item of.1 of.2

-- and at those that are left once one is taken
pub asked-left : {K V : Type 0} (may : K → V → Type 0) (old new : CacheState K V) (pair : K × V)
    → TakesItem old pair new
    → ((place : Place) (before : List (Item K V)) (item : Item K V) (after : List (Item K V))
    → items_at place old ≡ before ++ item ∷ after → may item.key item.value)
    → (place : Place) (before : List (Item K V)) (item : Item K V) (after : List (Item K V))
    → items_at place new ≡ before ++ item ∷ after → may item.key item.value
asked-left may old new pair takes each place before item after split =
    asked-there may old each item
    (Contains-permutation (takes.item ∷ residents new) (residents old) item
    (IsPermutation-sym (residents old) (takes.item ∷ residents new)
    (residents-taken takes.place old new takes.before takes.item takes.after takes.split takes.rest))
    (Contains-later takes.item (residents new) item
    (at-resident new place item
    (subst (λ l. Contains l item) (sym split) (Contains-middle before item after)))))
