-- What a look-up finds.
use Rattle.std.proofs.Common.{◌≡◌, ◌≢◌, ℕ, ◌+◌, ◌<◌, ◌==◌, if◌then◌else◌, Bool, true, false, eqb, List, [], ◌∷◌, count_by, length, IfSome}
use Rattle.std.proofs.Common.{Option, Some, None, IsSome, is_some, refl, sym, ap, subst, ◌∙◌, inl, inr, arith, true≢false}
use Rattle.std.specs.Int.NonZero.{non_zero_u32_get}
use Rattle.std.specs.declared.num.NonZeroU32.{NonZeroU32 as Token}
use Rattle.std.proofs.lemmas.Bool.{cases_eq, cases_Bool, eqb-true, eq-eqb}
use Rattle.quick_cache_store.specs.Pool.{Pool, times, item_at, IsOccupied}
use Rattle.std.proofs.lemmas.List.Sums.{sum_by-cons}
use Rattle.quick_cache_index.proofs.CountedTokens.{bit}
use Rattle.quick_cache_store.proofs.pool.TokenCounts.{times-here, times-other}
use Rattle.quick_cache_index.specs.Index.{Index, HasToken, AreCandidates}
use Rattle.quick_cache_store.specs.declared.slots.entry.Entry.{Entry}
use Rattle.quick_cache_store.specs.declared.slots.entry.Slot.{Slot}
use Rattle.quick_cache_store.specs.declared.lists.found.Found.{Found}
use Rattle.quick_cache_store.specs.Rings.{Rings}
use Rattle.quick_cache_store.specs.Lists.{Lists, HeldItem, HeldLoading, HeldGhost, StandsIn, Finds, FindsByKey, HasNoItem, HasNoKey}
use Rattle.quick_cache_store.specs.Lists.{HasNothing, FindsItem, FindsItemOfAnyHash, FindsLoading}
use Rattle.quick_cache_store.specs.ListSlots.{has_hash, hash_in, item_of, if_still, still_of, loading_of, ghost_of, is_under_at}
use Rattle.quick_cache_store.specs.ListSlots.{is_item_under_at, is_ghost_at, is_item_at}
use Rattle.quick_cache_store.specs.Sound.{gather, upto, lists_of, HasHash, IsKeyed, IsStanding, IsWalked, PassesNoItem}
use Rattle.quick_cache_store.proofs.lists.GatherLemmas.{gather-all}
use Rattle.quick_cache_store.proofs.lists.StandLemmas.{HasItem-from, StandsIn-loading, StandsIn-ghosts}

-- how often a token stands in a list, as std counts it
times-count : (t : ℕ) (xs : List ℕ) → times t xs ≡ count_by (λ k. eqb k t) xs
times-count t [] = refl
times-count t (x ∷ xs) =
    let counted = sum_by-cons (λ k. bit (eqb k t)) x xs in
    elim (cases_Bool (eqb x t)) [
      | inl hit ↦
          let here : times t (x ∷ xs) ≡ 1 + times t xs = rw hit refl in
          here ∙ ap (λ n. 1 + n) (times-count t xs)
          ∙ sym (counted ∙ ap (λ n. n + count_by (λ k. eqb k t) xs) (ap bit hit))
      | inr miss ↦
          let here : times t (x ∷ xs) ≡ 0 + times t xs = rw miss refl in
          here ∙ ap (λ n. 0 + n) (times-count t xs)
          ∙ sym (counted ∙ ap (λ n. n + count_by (λ k. eqb k t) xs) (ap bit miss))
    ]

module _ {K V : Type 0} where
  pub held_still : (o : Option (HeldItem K V)) (held : HeldItem K V) → if_still o ≡ Some held
      → o ≡ Some held
  held_still None held is = absurd (cc)
  held_still (Some y) held is = by_weight (y.item.weight == 0) is
    where
      by_weight : (b : Bool) → (if b then Some y else None) ≡ Some held → Some y ≡ Some held
      by_weight true e = e
      by_weight false e = absurd (cc)

module _ {K V P T : Type 0} where
  under_held : (stands_for : K → Bool) (t : ℕ) (o : Option (Slot K V P T)) (held : HeldItem K V)
      → item_of t o ≡ Some held → (is_under_at stands_for o ≡ stands_for held.item.key)
      × ((h : ℕ) → has_hash h o ≡ eqb held.hash h)
  under_held stands_for t None held is = absurd (cc)
  under_held stands_for t (Some slot) held is = by_entry slot.hash slot.entry is
    where
      by_entry : (hash : ℕ) (entry : Entry K V P T)
          → item_of t (Some (record { hash = hash; entry = entry })) ≡ Some held
          → (is_under_at stands_for (Some (record { hash = hash; entry = entry }))
          ≡ stands_for held.item.key) × ((h : ℕ)
          → has_hash h (Some (record { hash = hash; entry = entry })) ≡ eqb held.hash h)
      by_entry hash (Entry.Item item) e =
          let same : record { token = t; hash = hash; item = item } ≡ held =
          cc in (
            ap (λ (y : HeldItem K V). stands_for y.item.key) same,
            λ h. ap
                (λ (y : HeldItem K V). eqb y.hash h) same,
          )
      by_entry hash (Entry.Loading awaited) e = absurd (cc)
      by_entry hash Entry.Ghost e = absurd (cc)

  item_under_held : (stands_for : K → Bool) (t : ℕ) (o : Option (Slot K V P T))
      (held : HeldItem K V) → item_of t o ≡ Some held
      → is_item_under_at stands_for o ≡ stands_for held.item.key
  item_under_held stands_for t None held is = absurd (cc)
  item_under_held stands_for t (Some slot) held is = by_entry slot.hash slot.entry is
    where
      by_entry : (hash : ℕ) (entry : Entry K V P T)
          → item_of t (Some (record { hash = hash; entry = entry })) ≡ Some held
          → is_item_under_at stands_for (Some (record { hash = hash; entry = entry }))
          ≡ stands_for held.item.key
      by_entry hash (Entry.Item item) e =
          let same : record { token = t; hash = hash; item = item } ≡ held = cc in
          ap (λ (y : HeldItem K V). stands_for y.item.key) same
      by_entry hash (Entry.Loading awaited) e = absurd (cc)
      by_entry hash Entry.Ghost e = absurd (cc)

  -- what has an item under the query is an item, and is under it
  item_under-is : (stands_for : K → Bool) (o : Option (Slot K V P T))
      → is_item_under_at stands_for o ≡ true
      → (is_under_at stands_for o ≡ true) × (is_item_at o ≡ true)
  item_under-is stands_for None is = absurd (true≢false (sym is))
  item_under-is stands_for (Some slot) is = by_entry slot.hash slot.entry is
    where
      by_entry : (hash : ℕ) (entry : Entry K V P T)
          → is_item_under_at stands_for (Some (record { hash = hash; entry = entry })) ≡ true
          → (is_under_at stands_for (Some (record { hash = hash; entry = entry })) ≡ true)
          × (is_item_at (Some (record { hash = hash; entry = entry })) ≡ true)
      by_entry hash (Entry.Item item) e = (e, refl)
      by_entry hash (Entry.Loading awaited) e = absurd (true≢false (sym e))
      by_entry hash Entry.Ghost e = absurd (true≢false (sym e))

  -- what is under the query has the hash of its slot
  under_has_hash : (stands_for : K → Bool) (o : Option (Slot K V P T))
      → is_under_at stands_for o ≡ true → has_hash (hash_in o) o ≡ true
  under_has_hash stands_for None is = absurd (true≢false (sym is))
  under_has_hash stands_for (Some slot) is = eq-eqb slot.hash slot.hash refl

  under_waiting : (stands_for : K → Bool) (t : ℕ) (o : Option (Slot K V P T))
      (waiting : HeldLoading K P) → loading_of t o ≡ Some waiting
      → (is_under_at stands_for o ≡ stands_for waiting.key)
      × ((h : ℕ) → has_hash h o ≡ eqb waiting.hash h)
  under_waiting stands_for t None waiting is = absurd (cc)
  under_waiting stands_for t (Some slot) waiting is = by_entry slot.hash slot.entry is
    where
      by_entry : (hash : ℕ) (entry : Entry K V P T)
          → loading_of t (Some (record { hash = hash; entry = entry })) ≡ Some waiting
          → (is_under_at stands_for (Some (record { hash = hash; entry = entry }))
          ≡ stands_for waiting.key) × ((h : ℕ)
          → has_hash h (Some (record { hash = hash; entry = entry })) ≡ eqb waiting.hash h)
      by_entry hash (Entry.Item item) e = absurd (cc)
      by_entry hash (Entry.Loading awaited) e =
          let same : record {
            token = t;
            hash = hash;
            key = awaited.key;
            queue = awaited.queue;
            placeholder = awaited.placeholder;
          }
          ≡ waiting = cc in (
            ap (λ (y : HeldLoading K P). stands_for y.key) same,
            λ h. ap
                (λ (y : HeldLoading K P). eqb y.hash h) same,
          )
      by_entry hash Entry.Ghost e = absurd (cc)

  ghost_shade : (t : ℕ) (o : Option (Slot K V P T)) (shade : HeldGhost) → ghost_of t o ≡ Some shade
      → (is_ghost_at o ≡ true) × ((h : ℕ) → has_hash h o ≡ eqb shade.hash h)
  ghost_shade t None shade is = absurd (cc)
  ghost_shade t (Some slot) shade is = by_entry slot.hash slot.entry is
    where
      by_entry : (hash : ℕ) (entry : Entry K V P T)
          → ghost_of t (Some (record { hash = hash; entry = entry })) ≡ Some shade
          → (is_ghost_at (Some (record { hash = hash; entry = entry })) ≡ true)
          × ((h : ℕ) → has_hash h (Some (record { hash = hash; entry = entry })) ≡ eqb shade.hash h)
      by_entry hash (Entry.Item item) e = absurd (cc)
      by_entry hash (Entry.Loading awaited) e = absurd (cc)
      by_entry hash Entry.Ghost e = let same : record { token = t; hash = hash } ≡ shade =
          cc in (refl, λ h. ap (λ (y : HeldGhost). eqb y.hash h) same)

  module _ (slab : Pool (Slot K V P T)) (index : Index) (rings : Rings)
      (sound : IsStanding slab rings) (keyed : IsKeyed slab index) (stands_for : K → Bool)
      (hash : ℕ) where
    hashed : (t h : ℕ) (o : Option (Slot K V P T)) → item_at slab t ≡ o
        → has_hash hash o ≡ eqb h hash → h ≡ hash → HasHash slab hash t
    hashed t h o at is same = ap (has_hash hash) at ∙ is ∙ eq-eqb h hash same

    pub HasNoKey-from : ((t : ℕ) → HasHash slab hash t
        → is_under_at stands_for (item_at slab t) ≡ false)
        → HasNoKey stands_for hash (lists_of slab index rings)
    HasNoKey-from none = record {
      hot = gather-all (λ held. held.hash ≡ hash → stands_for held.item.key ≡ false)
          (λ token. item_of token (item_at slab token)) rings.hot.tokens
          (λ t y some is. of_held t y is);
      cold = gather-all (λ held. held.hash ≡ hash → stands_for held.item.key ≡ false)
          (λ token. item_of token (item_at slab token)) rings.cold.tokens
          (λ t y some is. of_held t y is);
      still = gather-all (λ held. held.hash ≡ hash → stands_for held.item.key ≡ false)
          (λ token. still_of token (item_at slab token)) (upto (length slab.slots))
          (λ t y some is. of_held t y (held_still _ y is));
      loading = gather-all (λ waiting. waiting.hash ≡ hash → stands_for waiting.key ≡ false)
          (λ token. loading_of token (item_at slab token)) (upto (length slab.slots))
          (λ t y some is same.
          let meant = under_waiting stands_for t (item_at slab t) y is in
          sym meant.0 ∙ none t (hashed t y.hash (item_at slab t) refl (meant.1 hash) same));
    }
      where
        of_held : (t : ℕ) (held : HeldItem K V) → item_of t (item_at slab t) ≡ Some held
            → held.hash ≡ hash → stands_for held.item.key ≡ false
        of_held t held is same =
            let meant = under_held stands_for t (item_at slab t) held is in
            sym meant.0 ∙ none t (hashed t held.hash (item_at slab t) refl (meant.1 hash) same)

    pub HasNoItem-from : ((t : ℕ) → HasHash slab hash t
        → is_item_under_at stands_for (item_at slab t) ≡ false)
        → HasNoItem stands_for hash (lists_of slab index rings)
    HasNoItem-from none = record {
      hot = gather-all (λ held. held.hash ≡ hash → stands_for held.item.key ≡ false)
          (λ token. item_of token (item_at slab token)) rings.hot.tokens
          (λ t y some is. of_held t y is);
      cold = gather-all (λ held. held.hash ≡ hash → stands_for held.item.key ≡ false)
          (λ token. item_of token (item_at slab token)) rings.cold.tokens
          (λ t y some is. of_held t y is);
      still = gather-all (λ held. held.hash ≡ hash → stands_for held.item.key ≡ false)
          (λ token. still_of token (item_at slab token)) (upto (length slab.slots))
          (λ t y some is. of_held t y (held_still _ y is));
    }
      where
        of_held : (t : ℕ) (held : HeldItem K V) → item_of t (item_at slab t) ≡ Some held
            → held.hash ≡ hash → stands_for held.item.key ≡ false
        of_held t held is same =
            let meant = under_held stands_for t (item_at slab t) held is in
            sym (item_under_held stands_for t (item_at slab t) held is)
            ∙ none t (hashed t held.hash (item_at slab t) refl (meant.1 hash) same)

    pub HasNothing-from : ((t : ℕ) → HasHash slab hash t
        → is_under_at stands_for (item_at slab t) ≡ false)
        → ((t : ℕ) → HasHash slab hash t → is_ghost_at (item_at slab t) ≡ false)
        → HasNothing stands_for hash (lists_of slab index rings)
    HasNothing-from none no_ghost = record {
      keys = HasNoKey-from none;
      ghosts = gather-all (λ shade. shade.hash ≢ hash)
          (λ token. ghost_of token (item_at slab token)) rings.ghosts.tokens
          (λ t y some is same.
          let meant = ghost_shade t (item_at slab t) y is in
          true≢false (sym meant.0 ∙ no_ghost t
          (hashed t y.hash (item_at slab t) refl (meant.1 hash) same)));
    }

    pub FindsItem-from : (t : ℕ) → HasHash slab hash t
        → is_under_at stands_for (item_at slab t) ≡ true → is_item_at (item_at slab t) ≡ true
        → FindsItem stands_for hash (lists_of slab index rings) t
    FindsItem-from t has passes item =
        by_slot (item_at slab t) refl has passes item
      where
        by_entry : (h : ℕ) (entry : Entry K V P T)
            → item_at slab t ≡ Some (record { hash = h; entry = entry }) → eqb h hash ≡ true
            → is_under_at stands_for (Some (record { hash = h; entry = entry })) ≡ true
            → is_item_at (Some (record { hash = h; entry = entry })) ≡ true
            → FindsItem stands_for hash (lists_of slab index rings) t
        by_entry h (Entry.Item i) at same under is = record {
          item = i;
          stands = HasItem-from slab index rings sound t hash i
              (at ∙ ap (λ n. Some (record { hash = n; entry = Entry.Item i }))
              (eqb-true h hash same));
          passes = under;
        }
        by_entry h (Entry.Loading w) at same under is = absurd (true≢false (sym is))
        by_entry h Entry.Ghost at same under is = absurd (true≢false (sym is))

        by_slot : (o : Option (Slot K V P T)) → item_at slab t ≡ o → has_hash hash o ≡ true
            → is_under_at stands_for o ≡ true → is_item_at o ≡ true
            → FindsItem stands_for hash (lists_of slab index rings) t
        by_slot None at same under is = absurd (true≢false (sym is))
        by_slot (Some slot) at same under is = by_entry slot.hash slot.entry at same under is

    pub FindsLoading-from : (t : ℕ) → HasHash slab hash t
        → is_under_at stands_for (item_at slab t) ≡ true → is_item_at (item_at slab t) ≡ false
        → FindsLoading stands_for hash (lists_of slab index rings) t
    FindsLoading-from t has passes item =
        by_slot (item_at slab t) refl has passes item
      where
        by_entry : (h : ℕ) (entry : Entry K V P T)
            → item_at slab t ≡ Some (record { hash = h; entry = entry }) → eqb h hash ≡ true
            → is_under_at stands_for (Some (record { hash = h; entry = entry })) ≡ true
            → is_item_at (Some (record { hash = h; entry = entry })) ≡ false
            → FindsLoading stands_for hash (lists_of slab index rings) t
        by_entry h (Entry.Item i) at same under is = absurd (true≢false is)
        by_entry h (Entry.Loading w) at same under is = record {
          waiting = record {
            token = t;
            hash = h;
            key = w.key;
            queue = w.queue;
            placeholder = w.placeholder;
          };
          named = refl;
          hashed = eqb-true h hash same;
          stands = StandsIn-loading slab index rings sound t _ _ at refl;
          passes = under;
        }
        by_entry h Entry.Ghost at same under is = absurd (true≢false (sym under))

        by_slot : (o : Option (Slot K V P T)) → item_at slab t ≡ o → has_hash hash o ≡ true
            → is_under_at stands_for o ≡ true → is_item_at o ≡ false
            → FindsLoading stands_for hash (lists_of slab index rings) t
        by_slot None at same under is = absurd (true≢false (sym under))
        by_slot (Some slot) at same under is = by_entry slot.hash slot.entry at same under is

    pub StandsIn-found : (t : ℕ) → HasHash slab hash t → is_ghost_at (item_at slab t) ≡ true
        → StandsIn (gather (λ token. ghost_of token (item_at slab token))
        rings.ghosts.tokens) (record { token = t; hash = hash })
    StandsIn-found t has is_ghost =
        by_slot (item_at slab t) refl has is_ghost
      where
        by_entry : (h : ℕ) (entry : Entry K V P T)
            → item_at slab t ≡ Some (record { hash = h; entry = entry }) → eqb h hash ≡ true
            → is_ghost_at (Some (record { hash = h; entry = entry })) ≡ true
            → StandsIn (gather (λ token. ghost_of token (item_at slab token))
            rings.ghosts.tokens) (record { token = t; hash = hash })
        by_entry h (Entry.Item i) at same is = absurd (true≢false (sym is))
        by_entry h (Entry.Loading w) at same is = absurd (true≢false (sym is))
        by_entry h Entry.Ghost at same is =
            StandsIn-ghosts slab index rings sound t hash
            (at ∙ ap (λ n. Some (record { hash = n; entry = Entry.Ghost }))
            (eqb-true h hash same))

        by_slot : (o : Option (Slot K V P T)) → item_at slab t ≡ o → has_hash hash o ≡ true
            → is_ghost_at o ≡ true → StandsIn
            (gather (λ token. ghost_of token (item_at slab token)) rings.ghosts.tokens)
            (record { token = t; hash = hash })
        by_slot None at same is = absurd (true≢false (sym is))
        by_slot (Some slot) at same is = by_entry slot.hash slot.entry at same is

  -- an item under the query is found under its hash
  pub FindsItemOfAnyHash-from : (slab : Pool (Slot K V P T)) (index : Index)
      (rings : Rings) → IsStanding slab rings → IsKeyed slab index
      → (stands_for : K → Bool) (t : ℕ)
      → is_item_under_at stands_for (item_at slab t) ≡ true
      → FindsItemOfAnyHash stands_for (lists_of slab index rings) t
  FindsItemOfAnyHash-from slab index rings sound keyed stands_for t passes =
      let is = item_under-is stands_for (item_at slab t) passes in
      let hash = hash_in (item_at slab t) in (
        hash,
        FindsItem-from slab index rings sound keyed stands_for hash t
            (under_has_hash stands_for (item_at slab t) is.0) is.0 is.1,
      )

  module _ (slab : Pool (Slot K V P T)) (index : Index) (hash : ℕ)
      (stands_for : K → Bool) where
    pub IsWalked-start : (tokens : List ℕ) → IsKeyed slab index
        → AreCandidates index hash tokens
        → IsWalked slab index hash stands_for tokens None
    IsWalked-start tokens keyed are = record {
      left_has = λ t some. are.only t (omega (arith, some, times-count t tokens));
      passed = λ t has none.
          absurd (omega (arith, none, times-count t tokens, are.all t (keyed.leads hash t has)));
      noted = tt;
    }

    pub IsWalked-past : (tokens rest : List ℕ) (token : Token) (shade noted : Option Token)
        → tokens ≡ non_zero_u32_get token ∷ rest
        → (HasHash slab hash (non_zero_u32_get token)
        → is_under_at stands_for (item_at slab (non_zero_u32_get token)) ≡ false)
        → (HasHash slab hash (non_zero_u32_get token)
        → is_ghost_at (item_at slab (non_zero_u32_get token)) ≡ true → noted ≢ None)
        → (shade ≢ None → noted ≢ None)
        → IfSome noted (λ t. HasHash slab hash (non_zero_u32_get t)
        × (is_ghost_at (item_at slab (non_zero_u32_get t)) ≡ true))
        → IsWalked slab index hash stands_for tokens shade
        → IsWalked slab index hash stands_for rest noted
    IsWalked-past tokens rest token shade noted first differs here still notes walked = record {
      left_has = λ t some. walked.left_has t (rw first (omega arith));
      passed = λ t has none. elim (cases_eq (non_zero_u32_get token) t) [
        | inl same ↦ (
          subst (λ (u : ℕ). HasHash slab hash u
              → is_under_at stands_for (item_at slab u) ≡ false) same differs has,
          subst (λ (u : ℕ). HasHash slab hash u
              → is_ghost_at (item_at slab u) ≡ true → noted ≢ None) same here has,
        )
        | inr other ↦
            let was = walked.passed t has (rw first
            (omega (arith, times-other t (non_zero_u32_get token) rest other))) in
            (was.0, λ is. still (was.1 is))
      ];
      noted = notes;
    }

    pub IsWalked-has : (tokens rest : List ℕ) (token : Token) (shade : Option Token)
        → tokens ≡ non_zero_u32_get token ∷ rest → IsWalked slab index hash stands_for tokens shade
        → HasToken index (non_zero_u32_get token)
    IsWalked-has tokens rest token shade first walked =
        walked.left_has (non_zero_u32_get token)
        (rw first (omega (arith, times-here (non_zero_u32_get token) rest)))

    pub IsWalked-none : (tokens : List ℕ) (shade : Option Token) → tokens ≡ []
        → IsWalked slab index hash stands_for tokens shade → (t : ℕ) → HasHash slab hash t
        → is_under_at stands_for (item_at slab t) ≡ false
    IsWalked-none tokens shade end walked t has = (walked.passed t has (rw end refl)).0

    pub IsWalked-ghostless : (tokens : List ℕ) (shade : Option Token) → tokens ≡ [] → shade ≡ None
        → IsWalked slab index hash stands_for tokens shade → (t : ℕ) → HasHash slab hash t
        → is_ghost_at (item_at slab t) ≡ false
    IsWalked-ghostless tokens shade end unseen walked t has =
        elim (cases_Bool (is_ghost_at (item_at slab t))) [
          | inl is ↦ absurd ((walked.passed t has (rw end refl)).1 is unseen)
          | inr isnt ↦ isnt
        ]

    pub IsWalked-noted : (tokens : List ℕ) (shade : Option Token) (token : Token)
        → shade ≡ Some token → IsWalked slab index hash stands_for tokens shade
        → HasHash slab hash (non_zero_u32_get token)
        × (is_ghost_at (item_at slab (non_zero_u32_get token)) ≡ true)
    IsWalked-noted tokens shade token seen walked =
        subst (λ (o : Option Token). IfSome o
        (λ t. HasHash slab hash (non_zero_u32_get t)
        × (is_ghost_at (item_at slab (non_zero_u32_get t)) ≡ true))) seen walked.noted

    -- the same of a walk along candidates that seeks an item alone
    pub PassesNoItem-start : (tokens : List ℕ) → IsKeyed slab index
        → AreCandidates index hash tokens
        → PassesNoItem slab index hash stands_for tokens
    PassesNoItem-start tokens keyed are = record {
      left_has = λ t some. are.only t (omega (arith, some, times-count t tokens));
      passed = λ t has none.
          absurd (omega (arith, none, times-count t tokens, are.all t (keyed.leads hash t has)));
    }

    pub PassesNoItem-past : (tokens rest : List ℕ) (token : Token)
        → tokens ≡ non_zero_u32_get token ∷ rest
        → (HasHash slab hash (non_zero_u32_get token)
        → is_item_under_at stands_for (item_at slab (non_zero_u32_get token)) ≡ false)
        → PassesNoItem slab index hash stands_for tokens
        → PassesNoItem slab index hash stands_for rest
    PassesNoItem-past tokens rest token first differs walked = record {
      left_has = λ t some. walked.left_has t (rw first (omega arith));
      passed = λ t has none. elim (cases_eq (non_zero_u32_get token) t) [
        | inl same ↦ subst
            (λ (u : ℕ). HasHash slab hash u → is_item_under_at stands_for (item_at slab u) ≡ false)
            same differs has
        | inr other ↦ walked.passed t has (rw first
            (omega (arith, times-other t (non_zero_u32_get token) rest other)))
      ];
    }

    pub PassesNoItem-has : (tokens rest : List ℕ) (token : Token)
        → tokens ≡ non_zero_u32_get token ∷ rest
        → PassesNoItem slab index hash stands_for tokens
        → HasToken index (non_zero_u32_get token)
    PassesNoItem-has tokens rest token first walked =
        walked.left_has (non_zero_u32_get token)
        (rw first (omega (arith, times-here (non_zero_u32_get token) rest)))

    pub PassesNoItem-none : (tokens : List ℕ) → tokens ≡ []
        → PassesNoItem slab index hash stands_for tokens → (t : ℕ) → HasHash slab hash t
        → is_item_under_at stands_for (item_at slab t) ≡ false
    PassesNoItem-none tokens end walked t has = walked.passed t has (rw end refl)

module _ {K V P T : Type 0} where
  is_some-some : (o : Option (Slot K V P T)) → is_some o ≡ true → IsSome o
  is_some-some None is = absurd (true≢false (sym is))
  is_some-some (Some slot) is = refl

  -- a token of the index has an entry
  pub occupied_by_token : (slab : Pool (Slot K V P T)) (index : Index) → IsKeyed slab index
      → (t : ℕ) → HasToken index t → IsOccupied slab t
  occupied_by_token slab index keyed t has =
      is_some-some (item_at slab t) (sym (keyed.tokens t) ∙ has)

  -- without a candidate no entry has the hash
  pub none_of_hash : (slab : Pool (Slot K V P T)) (index : Index) → IsKeyed slab index
      → (hash : ℕ) (tokens : List ℕ) → AreCandidates index hash tokens → tokens ≡ []
      → (t : ℕ) → HasHash slab hash t → ⊥
  none_of_hash slab index keyed hash tokens are none t has =
      let some : 0 < count_by (λ k. k == t) [] =
      subst (λ (ts : List ℕ). 0 < count_by (λ k. k == t) ts) none
      (are.all t (keyed.leads hash t has)) in
      omega (arith, some)

-- what is found by key and hash is found by key
pub FindsByKey-from : {K V P : Type 0} (stands_for : K → Bool) (hash : ℕ) (lists : Lists K V P)
    (found : Found) → Finds stands_for hash lists found → FindsByKey stands_for hash lists found
FindsByKey-from stands_for hash lists (Found.Item token) finds = (hash, finds)
FindsByKey-from stands_for hash lists (Found.Loading token) finds = (hash, finds)
FindsByKey-from stands_for hash lists (Found.Ghost token) finds = finds
FindsByKey-from stands_for hash lists Found.Nothing finds = finds
