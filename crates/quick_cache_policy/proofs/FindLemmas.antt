-- What a query finds in the lists is what it finds in the state: the lists look at the entries of
-- its hash, and the keys that it stands for are under that hash.
use Rattle.std.proofs.Common.{◌≡◌, ◌≢◌, ℕ, ◌≤◌, Bool, true, false, true≢false, List, [], ◌∷◌, ◌++◌, map, Option, Some, None, MatchOption}
use Rattle.std.proofs.Common.{refl, sym, ap, subst, ◌∙◌, arith}
use Rattle.std.specs.List.{AllByRecursion}
use Rattle.std.proofs.lemmas.List.{map-append}
use Rattle.std.specs.Int.NonZero.{non_zero_u32_get}
use Rattle.std.specs.declared.num.NonZeroU32.{NonZeroU32 as Token}
use Rattle.quick_cache_model.specs.CacheState.{CacheState, LoadingEntry, Place, InHot, InCold, InStill, keys_by}
use Rattle.quick_cache_model.specs.Finding.{IsItemAt, IsLoadingAt, IsGhostAt, HasNoItem, HasNoKey as HasNoKeyOf, HasNothing as HasNothingOf}
use Rattle.quick_cache_model.proofs.EachElement.{all-middle, all-weaker}
use Rattle.quick_cache_model.proofs.KeyCounts.{one_if, none-from_keys, loading_keys-split}
use Rattle.quick_cache_store.specs.Lists.{Lists, HeldItem, HeldLoading, HeldGhost, StandsIn, HasItem, HasNoKey, HasNothing, FindsItem}
use Rattle.quick_cache_store.specs.Lists.{FindsItemOfAnyHash, FindsLoading, Finds, FindsByKey, items_at, HasNoItem as HasNoItemUnder}
use Rattle.quick_cache_store.specs.Views.{items_of, hashes_of, loading_entry, loading_entries}
use Rattle.quick_cache_store.specs.declared.lists.found.Found.{Found}
use Rattle.quick_cache_store.proofs.lists.CallerLemmas.{items_of-split}
use Rattle.quick_cache_policy.specs.Contents.{AreHashed, state_of}
use Rattle.quick_cache_policy.specs.Finding.{AreUnder}
use Rattle.quick_cache_policy.specs.declared.contents.Contents.{Contents}

-- what holds of an answer that is none
pub none-found : {X P : Type 0} (Q : X → Type 0) (answer : Option X)
    → ((x : X) → answer ≡ Some x → ⊥) → MatchOption answer P Q → P
none-found Q None not is = is
none-found Q (Some x) not is = absurd (not x refl)

module _ {X Y : Type 0} (P : X → Type 0) (Q : Y → Type 0) (f : X → Y) where
  -- from the elements to their images in another type
  pub each-image : ((x : X) → P x → Q (f x)) → (xs : List X) → AllByRecursion P xs
      → AllByRecursion Q (map f xs)
  each-image h [] a = tt
  each-image h (x ∷ xs) a = (h x a.0, each-image h xs a.1)

-- a key that the query does not stand for under its hash, and would stand under it
fails-under : {K : Type 0} (stands_for : K → Bool) (under : Type 0) (key : K)
    → (stands_for key ≡ true → under) → (under → stands_for key ≡ false) → stands_for key ≡ false
fails-under stands_for under key is fails = go (stands_for key) refl
  where
    go : (b : Bool) → stands_for key ≡ b → stands_for key ≡ false
    go true passes = fails (is passes)
    go false fails_so = fails_so

module _ {K V P : Type 0} (stands_for : K → Bool) (hash : ℕ) (lists : Lists K V P) where
  -- keys stand under their hashes, and those that the query stands for have its hash
  pub AreHashed-under : (hashed : K → ℕ) → ((k : K) → stands_for k ≡ true → hashed k ≡ hash)
      → AreHashed hashed lists → AreUnder stands_for hash lists
  AreHashed-under hashed same are =
      let item : (held : HeldItem K V) → held.hash ≡ hashed held.item.key
      → stands_for held.item.key ≡ true → held.hash ≡ hash =
      λ held is passes. is ∙ same held.item.key passes in
      let P : HeldItem K V → Type 0 = λ held. held.hash ≡ hashed held.item.key in
      let Q : HeldItem K V → Type 0 = λ held. stands_for held.item.key ≡ true → held.hash ≡ hash in
      record {
        hot = all-weaker P Q item lists.hot are.hot;
        cold = all-weaker P Q item lists.cold are.cold;
        still = all-weaker P Q item lists.still are.still;
        loading = all-weaker (λ waiting. waiting.hash ≡ hashed waiting.key)
            (λ waiting. stands_for waiting.key ≡ true → waiting.hash ≡ hash)
            (λ waiting is passes. is ∙ same waiting.key passes) lists.loading are.loading;
      }

  -- an item whose key the query stands for has the query's hash
  FindsItem-under : AreUnder stands_for hash lists → (token : ℕ)
      → FindsItemOfAnyHash stands_for lists token → FindsItem stands_for hash lists token
  FindsItem-under under token (found, finds) =
      let at = finds.stands in
      subst (λ h. FindsItem stands_for h lists token)
      (go at.place at.stands.before at.stands.after at.stands.split) finds
    where
      has_hash : HeldItem K V → Type 0
      has_hash held = stands_for held.item.key ≡ true → held.hash ≡ hash

      held : HeldItem K V
      held = record { token = token; hash = found; item = finds.item }

      go : (place : Place) (before after : List (HeldItem K V))
          → items_at place lists ≡ before ++ held ∷ after → found ≡ hash
      go InHot before after split =
          all-middle has_hash before held after
          (subst (AllByRecursion has_hash) split under.hot) finds.passes
      go InCold before after split =
          all-middle has_hash before held after
          (subst (AllByRecursion has_hash) split under.cold) finds.passes
      go InStill before after split =
          all-middle has_hash before held after
          (subst (AllByRecursion has_hash) split under.still) finds.passes

  -- an item that the lists found by keys alone is what they would have found by the hash too
  pub found-under : AreUnder stands_for hash lists → (found : Option Token)
      → MatchOption found (HasNoItemUnder stands_for hash lists)
      (λ token. FindsItemOfAnyHash stands_for lists (non_zero_u32_get token))
      → MatchOption found (HasNoItemUnder stands_for hash lists)
      (λ token. FindsItem stands_for hash lists (non_zero_u32_get token))
  found-under under None none = none
  found-under under (Some token) finds = FindsItem-under under _ finds

  -- a placeholder for whose key the query stands has the query's hash
  FindsLoading-under : AreUnder stands_for hash lists → (token of_key : ℕ)
      → FindsLoading stands_for of_key lists token → FindsLoading stands_for hash lists token
  FindsLoading-under under token of_key finds =
      let has_hash : HeldLoading K P → Type 0 =
      λ waiting. stands_for waiting.key ≡ true → waiting.hash ≡ hash in
      let stands = finds.stands in
      let same = all-middle has_hash stands.before finds.waiting stands.after
      (subst (AllByRecursion has_hash) stands.split under.loading) finds.passes in
      subst (λ h. FindsLoading stands_for h lists token) (sym finds.hashed ∙ same) finds

  -- what the lists found by keys alone is what they would have found by the hash too
  pub Finds-under : AreUnder stands_for hash lists → (found : Found)
      → FindsByKey stands_for hash lists found → Finds stands_for hash lists found
  Finds-under under (Found.Item token) finds = FindsItem-under under _ finds
  Finds-under under (Found.Loading token) finds = FindsLoading-under under _ finds.0 finds.1
  Finds-under under (Found.Ghost token) finds = finds
  Finds-under under Found.Nothing finds = finds

module _ {K V P W A T : Type 0} (ticket_of : P → ℕ) (stands_for : K → Bool) (hash : ℕ)
    (contents : Contents K V W A T P) where
  items-fail : (entries : List (HeldItem K V))
      → AllByRecursion (λ held. stands_for held.item.key ≡ true → held.hash ≡ hash) entries
      → AllByRecursion (λ held. held.hash ≡ hash → stands_for held.item.key ≡ false) entries
      → AllByRecursion (λ item. stands_for item.key ≡ false) (items_of entries)
  items-fail [] under fails = tt
  items-fail (held ∷ entries) under fails = (
    fails-under stands_for (held.hash ≡ hash) held.item.key under.0 fails.0,
    items-fail entries under.1 fails.1,
  )

  loading-fail : (entries : List (HeldLoading K P))
      → AllByRecursion (λ waiting. stands_for waiting.key ≡ true → waiting.hash ≡ hash) entries
      → AllByRecursion (λ waiting. waiting.hash ≡ hash → stands_for waiting.key ≡ false) entries
      → AllByRecursion (λ entry. stands_for entry.key ≡ false) (loading_entries ticket_of entries)
  loading-fail [] under fails = tt
  loading-fail (waiting ∷ entries) under fails = (
    fails-under stands_for (waiting.hash ≡ hash) waiting.key under.0 fails.0,
    loading-fail entries under.1 fails.1,
  )

  -- no key under the hash is no key at all
  pub HasNoKey-state : AreUnder stands_for hash contents.lists
      → HasNoKey stands_for hash contents.lists
      → HasNoKeyOf stands_for (state_of ticket_of contents)
  HasNoKey-state under none = record {
    items = record {
      hot = items-fail contents.lists.hot under.hot none.hot;
      cold = items-fail contents.lists.cold under.cold none.cold;
      still = items-fail contents.lists.still under.still none.still;
    };
    loading = loading-fail contents.lists.loading under.loading none.loading;
  }

  -- no item under the hash is no item at all
  pub HasNoItem-state : AreUnder stands_for hash contents.lists
      → HasNoItemUnder stands_for hash contents.lists
      → HasNoItem stands_for (state_of ticket_of contents)
  HasNoItem-state under none = record {
    hot = items-fail contents.lists.hot under.hot none.hot;
    cold = items-fail contents.lists.cold under.cold none.cold;
    still = items-fail contents.lists.still under.still none.still;
  }

  -- nothing, in the lists and in the state
  pub HasNothing-state : AreUnder stands_for hash contents.lists
      → HasNothing stands_for hash contents.lists
      → HasNothingOf stands_for hash (state_of ticket_of contents)
  HasNothing-state under none = record {
    keys = HasNoKey-state under none.keys;
    ghosts = each-image (λ shade. shade.hash ≢ hash) (λ ghost_hash. ghost_hash ≢ hash)
        (λ shade. shade.hash) (λ shade other. other) contents.lists.ghosts none.ghosts;
  }

  -- an item that stands at a place
  pub IsItemAt-stands : (place : Place) (before : List (HeldItem K V)) (held : HeldItem K V)
      (after : List (HeldItem K V)) → items_at place contents.lists ≡ before ++ held ∷ after
      → stands_for held.item.key ≡ true
      → IsItemAt stands_for (state_of ticket_of contents) place (items_of before) held.item
      (items_of after)
  IsItemAt-stands InHot before held after split passes = record {
    split = ap items_of split ∙ items_of-split before after held;
    passes = passes;
  }
  IsItemAt-stands InCold before held after split passes = record {
    split = ap items_of split ∙ items_of-split before after held;
    passes = passes;
  }
  IsItemAt-stands InStill before held after split passes = record {
    split = ap items_of split ∙ items_of-split before after held;
    passes = passes;
  }

  -- a placeholder that stands in the lists
  pub IsLoadingAt-stands : (before : List (HeldLoading K P)) (waiting : HeldLoading K P)
      (after : List (HeldLoading K P)) → contents.lists.loading ≡ before ++ waiting ∷ after
      → stands_for waiting.key ≡ true
      → IsLoadingAt stands_for (state_of ticket_of contents) (loading_entries ticket_of before)
      (loading_entry ticket_of waiting) (loading_entries ticket_of after)
  IsLoadingAt-stands before waiting after split passes = record {
    split = ap (loading_entries ticket_of) split
        ∙ map-append (loading_entry ticket_of) before (waiting ∷ after);
    passes = passes;
  }

  -- a ghost that stands in the lists, where there is no key
  pub IsGhostAt-stands : AreUnder stands_for hash contents.lists
      → HasNoKey stands_for hash contents.lists
      → (before : List HeldGhost) (token : ℕ) (after : List HeldGhost)
      → contents.lists.ghosts ≡ before ++ record { token = token; hash = hash } ∷ after
      → IsGhostAt stands_for hash (state_of ticket_of contents) (hashes_of before)
      (hashes_of after)
  IsGhostAt-stands under none before token after split = record {
    keys = HasNoKey-state under none;
    split = ap hashes_of split
        ∙ map-append (λ (shade : HeldGhost). shade.hash) before
        (record { token = token; hash = hash } ∷ after);
  }

module _ {K V P : Type 0} (stands_for : K → Bool) (hash : ℕ) (lists : Lists K V P) (room : ℕ) where
  -- with other room, no key
  HasNoKey-room : HasNoKey stands_for hash lists
      → HasNoKey stands_for hash (record lists { room = room })
  HasNoKey-room none = record {
    hot = none.hot;
    cold = none.cold;
    still = none.still;
    loading = none.loading;
  }

  -- with other room, the item at its place
  HasItem-room : (held : HeldItem K V) (place : Place) → StandsIn (items_at place lists) held
      → HasItem (record lists { room = room }) held
  HasItem-room held InHot stands = record { place = InHot; stands = stands }
  HasItem-room held InCold stands = record { place = InCold; stands = stands }
  HasItem-room held InStill stands = record { place = InStill; stands = stands }

  -- with other room, the same is found
  pub Finds-room : (found : Found) → Finds stands_for hash lists found
      → Finds stands_for hash (record lists { room = room }) found
  Finds-room (Found.Item token) finds = record {
    item = finds.item;
    stands = HasItem-room _ finds.stands.place finds.stands.stands;
    passes = finds.passes;
  }
  Finds-room (Found.Loading token) finds = record {
    waiting = finds.waiting;
    named = finds.named;
    hashed = finds.hashed;
    stands = finds.stands;
    passes = finds.passes;
  }
  Finds-room (Found.Ghost token) finds = (HasNoKey-room finds.0, finds.1)
  Finds-room Found.Nothing finds = record {
    keys = HasNoKey-room finds.keys;
    ghosts = finds.ghosts;
  }

-- where a key is being loaded, no item has it: a valid state has one entry for it
pub HasNoItem-loading : {K V : Type 0} (stands_for : K → Bool) (state : CacheState K V)
    (before : List (LoadingEntry K)) (entry : LoadingEntry K) (after : List (LoadingEntry K))
    → keys_by stands_for state ≤ 1 → IsLoadingAt stands_for state before entry after
    → HasNoItem stands_for state
HasNoItem-loading stands_for state before entry after once at =
    let all : keys_by stands_for state
    ≡ keys_by stands_for (record state { loading = before ++ entry ∷ after }) =
    ap (λ l. keys_by stands_for (record state { loading = l })) at.split in
    let parts = loading_keys-split stands_for before entry after in
    let here = ap one_if at.passes in
    record {
      hot = none-from_keys stands_for state.hot (omega (arith, once, all, parts, here));
      cold = none-from_keys stands_for state.cold (omega (arith, once, all, parts, here));
      still = none-from_keys stands_for state.still (omega (arith, once, all, parts, here));
    }

module _ {K V P W A T : Type 0} (ticket_of : P → ℕ) (stands_for : K → Bool) (hash : ℕ)
    (contents : Contents K V W A T P) where
  -- an item of a place whose key passes is no such that all fail
  passes-not : (xs before : List (HeldItem K V)) (held : HeldItem K V)
      (after : List (HeldItem K V)) → xs ≡ before ++ held ∷ after
      → stands_for held.item.key ≡ true
      → AllByRecursion (λ item. stands_for item.key ≡ false) (items_of xs) → ⊥
  passes-not xs before held after split passes none =
      true≢false (sym passes ∙ all-middle (λ item. stands_for item.key ≡ false) (items_of before)
      held.item (items_of after)
      (subst (AllByRecursion (λ item. stands_for item.key ≡ false))
      (ap items_of split ∙ items_of-split before after held) none))

  -- an item is found
  FindsItem-some : (token : ℕ) → FindsItem stands_for hash contents.lists token
      → HasNoItem stands_for (state_of ticket_of contents) → ⊥
  FindsItem-some token finds none =
      let at = finds.stands in
      go at.place at.stands.before at.stands.after at.stands.split
    where
      go : (place : Place) (before after : List (HeldItem K V))
          → items_at place contents.lists
          ≡ before ++ record { token = token; hash = hash; item = finds.item } ∷ after → ⊥
      go InHot before after split = passes-not contents.lists.hot before _ after split
          finds.passes none.hot
      go InCold before after split = passes-not contents.lists.cold before _ after split
          finds.passes none.cold
      go InStill before after split = passes-not contents.lists.still before _ after split
          finds.passes none.still

  -- where the state has nothing, nothing was found in the lists
  pub Finds-nothing : (found : Found) → Finds stands_for hash contents.lists found
      → HasNothingOf stands_for hash (state_of ticket_of contents) → found ≡ Found.Nothing
  Finds-nothing (Found.Item token) finds none =
      absurd (FindsItem-some _ finds none.keys.items)
  Finds-nothing (Found.Loading token) finds none =
      let at = finds.stands in
      absurd (true≢false (sym finds.passes
      ∙ all-middle (λ entry. stands_for entry.key ≡ false)
      (loading_entries ticket_of at.before)
      (loading_entry ticket_of finds.waiting) (loading_entries ticket_of at.after)
      (subst (AllByRecursion (λ entry. stands_for entry.key ≡ false))
      (IsLoadingAt-stands ticket_of stands_for hash contents at.before finds.waiting at.after
      at.split finds.passes).split none.keys.loading)))
  Finds-nothing (Found.Ghost token) finds none =
      let at = finds.1 in
      absurd (all-middle (λ ghost_hash. ghost_hash ≢ hash) (hashes_of at.before) hash
      (hashes_of at.after)
      (subst (AllByRecursion (λ ghost_hash. ghost_hash ≢ hash))
      (ap hashes_of at.split
      ∙ map-append (λ (shade : HeldGhost). shade.hash) at.before
      (record { token = _; hash = hash } ∷ at.after)) none.ghosts) refl)
  Finds-nothing Found.Nothing finds none = refl
