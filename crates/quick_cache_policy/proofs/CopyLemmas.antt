-- A copy of sound contents is sound, since a clone of a key counts as the key does.
use Rattle.std.proofs.Common.{◌≡◌, ℕ, ◌<◌, ◌==◌, Bool, cond, List, [], ◌∷◌, refl, sym, ap, subst, arith}
use Rattle.std.specs.Cmp.{IsEquivalence}
use Rattle.std.specs.List.{AllByRecursion, AllZip, count_by}
use Rattle.std.proofs.lemmas.List.Sums.{sum_by-cons}
use Rattle.quick_cache_model.specs.declared.queue.Queue.{Queue}
use Rattle.quick_cache_model.specs.CacheState.{CacheState, Item, LoadingEntry, IsRingItem, IsStillItem, IsValid}
use Rattle.quick_cache_model.proofs.EqualKeys.{one-equal}
use Rattle.quick_cache_model.proofs.KeyCounts.{keys, keys-cons, loading_keys, loading_keys-cons}
use Rattle.quick_cache_model.proofs.Valid.States.{IsValid-parts}
use Rattle.quick_cache_store.specs.ListCopies.{AreCopies, IsHeldCopy, IsItemCopy, IsWaitingCopy}
use Rattle.quick_cache_store.specs.Lists.{HeldItem, HeldLoading, Lists}
use Rattle.quick_cache_store.specs.Views.{hashes_of, items_of, loading_entries}
use Rattle.quick_cache_policy.specs.declared.contents.Contents.{Contents}
use Rattle.quick_cache_policy.specs.Contents.{IsSound, state_of}
use Rattle.quick_cache_policy.specs.Copies.{ClonesAreEqual, IsCopyOf, IsLoadingCopy, IsKeptAgain}

module _ {K V : Type 0} (clones_key : K → K → Type 0) (clones_value : V → V → Type 0) where
  -- a copy stands in the ring that its item stands in
  ring-copied : (cut : ℕ) (queue : Queue) (xs ys : List (Item K V))
      → AllZip (IsItemCopy clones_key clones_value) xs ys
      → AllByRecursion (IsRingItem cut queue) xs → AllByRecursion (IsRingItem cut queue) ys
  ring-copied cut queue [] [] copies ring = tt
  ring-copied cut queue [] (y ∷ ys) copies ring = absurd copies
  ring-copied cut queue (x ∷ xs) [] copies ring = absurd copies
  ring-copied cut queue (x ∷ xs) (y ∷ ys) copies ring = (
    subst (λ (item : Item K V). IsRingItem cut queue item) (sym copies.0.same) (record {
      weighs = ring.0.weighs;
      of_queue = ring.0.of_queue;
      marked = ring.0.marked;
    }),
    ring-copied cut queue xs ys copies.1 ring.1,
  )

  -- and in none where its item does
  still-copied : (cut : ℕ) (xs ys : List (Item K V))
      → AllZip (IsItemCopy clones_key clones_value) xs ys
      → AllByRecursion (IsStillItem cut) xs → AllByRecursion (IsStillItem cut) ys
  still-copied cut [] [] copies still = tt
  still-copied cut [] (y ∷ ys) copies still = absurd copies
  still-copied cut (x ∷ xs) [] copies still = absurd copies
  still-copied cut (x ∷ xs) (y ∷ ys) copies still = (
    subst (λ (item : Item K V). IsStillItem cut item) (sym copies.0.same)
        (record { weightless = still.0.weightless; marked = still.0.marked }),
    still-copied cut xs ys copies.1 still.1,
  )

  -- copies have the same tickets
  tickets-copied : (n : ℕ) (xs ys : List (LoadingEntry K))
      → AllZip (IsLoadingCopy clones_key) xs ys
      → count_by (λ entry. entry.ticket == n) ys ≡ count_by (λ entry. entry.ticket == n) xs
  tickets-copied n [] [] copies = refl
  tickets-copied n [] (y ∷ ys) copies = absurd copies
  tickets-copied n (x ∷ xs) [] copies = absurd copies
  tickets-copied n (x ∷ xs) (y ∷ ys) copies = omega (
    arith,
    sum_by-cons (λ (entry : LoadingEntry K). cond (entry.ticket == n) 1 0) x xs,
    sum_by-cons (λ (entry : LoadingEntry K). cond (entry.ticket == n) 1 0) y ys,
    ap {B = ℕ} (λ (entry : LoadingEntry K). cond (entry.ticket == n) 1 0) copies.0.same,
    tickets-copied n xs ys copies.1,
  )

  given-copied : (next : ℕ) (xs ys : List (LoadingEntry K))
      → AllZip (IsLoadingCopy clones_key) xs ys
      → AllByRecursion (λ entry. entry.ticket < next) xs
      → AllByRecursion (λ entry. entry.ticket < next) ys
  given-copied next [] [] copies given = tt
  given-copied next [] (y ∷ ys) copies given = absurd copies
  given-copied next (x ∷ xs) [] copies given = absurd copies
  given-copied next (x ∷ xs) (y ∷ ys) copies given = (
    subst (λ (entry : LoadingEntry K). entry.ticket < next) (sym copies.0.same) given.0,
    given-copied next xs ys copies.1 given.1,
  )

  module _ (equal : K → K → Bool) (equals : ClonesAreEqual equal clones_key) where
    module _ (laws : IsEquivalence equal) where
      -- copies count for a key as their items do
      keys-copied : (k : K) (xs ys : List (Item K V))
          → AllZip (IsItemCopy clones_key clones_value) xs ys
          → keys (equal k) ys ≡ keys (equal k) xs
      keys-copied k [] [] copies = refl
      keys-copied k [] (y ∷ ys) copies = absurd copies
      keys-copied k (x ∷ xs) [] copies = absurd copies
      keys-copied k (x ∷ xs) (y ∷ ys) copies = omega (
        arith,
        keys-cons (equal k) x xs,
        keys-cons (equal k) y ys,
        one-equal equal laws k x.key y.key (equals x.key y.key copies.0.key),
        keys-copied k xs ys copies.1,
      )

      -- and so do copies of what is being loaded
      loading_keys-copied : (k : K) (xs ys : List (LoadingEntry K))
          → AllZip (IsLoadingCopy clones_key) xs ys
          → loading_keys (equal k) ys ≡ loading_keys (equal k) xs
      loading_keys-copied k [] [] copies = refl
      loading_keys-copied k [] (y ∷ ys) copies = absurd copies
      loading_keys-copied k (x ∷ xs) [] copies = absurd copies
      loading_keys-copied k (x ∷ xs) (y ∷ ys) copies = omega (
        arith,
        loading_keys-cons (equal k) x xs,
        loading_keys-cons (equal k) y ys,
        one-equal equal laws k x.key y.key (equals x.key y.key copies.0.key),
        loading_keys-copied k xs ys copies.1,
      )

      -- a copy of a valid state is valid
      pub IsCopyOf-valid : (state copy : CacheState K V)
          → IsCopyOf clones_key clones_value state copy
          → IsValid equal state → IsValid equal copy
      IsCopyOf-valid state copy is valid =
          subst (λ (s : CacheState K V). IsValid equal s) (sym is.same)
          (IsValid-parts equal (record state {
            hot = copy.hot;
            cold = copy.cold;
            still = copy.still;
            loading = copy.loading;
          })
          (λ k. let was = valid.one_entry_a_key k in
          omega (
            arith,
            was,
            keys-copied k state.hot copy.hot is.hot,
            keys-copied k state.cold copy.cold is.cold,
            keys-copied k state.still copy.still is.still,
            loading_keys-copied k state.loading copy.loading is.loading,
          ))
          (record {
            one_entry = λ n. omega (
              arith,
              valid.one_entry_a_ticket n,
              tickets-copied n state.loading copy.loading is.loading,
            );
            given = given-copied state.next_ticket state.loading copy.loading is.loading
                valid.tickets_given;
          })
          valid.ghosts_within
          (record {
            in_hot = ring-copied state.mark_cut Queue.Hot state.hot copy.hot is.hot valid.in_hot;
            in_cold = ring-copied state.mark_cut Queue.Cold state.cold copy.cold is.cold
                valid.in_cold;
            in_still = still-copied state.mark_cut state.still copy.still is.still valid.in_still;
          }))

  module _ {P : Type 0} (hash_of : K → ℕ) (ticket_of : P → ℕ) where
    abbrev Held : HeldItem K V → HeldItem K V → Type 0
    Held = IsHeldCopy clones_key clones_value hash_of (IsKeptAgain ticket_of)

    abbrev Waiting : HeldLoading K P → HeldLoading K P → Type 0
    Waiting = IsWaitingCopy {V = V} clones_key clones_value hash_of (IsKeptAgain ticket_of)

    -- copies under tokens are copies without them
    items_of-copied : (xs ys : List (HeldItem K V)) → AllZip Held xs ys
        → AllZip (IsItemCopy clones_key clones_value) (items_of xs) (items_of ys)
    items_of-copied [] [] copies = tt
    items_of-copied [] (y ∷ ys) copies = absurd copies
    items_of-copied (x ∷ xs) [] copies = absurd copies
    items_of-copied (x ∷ xs) (y ∷ ys) copies = (copies.0.item, items_of-copied xs ys copies.1)

    loading_entries-copied : (xs ys : List (HeldLoading K P)) → AllZip Waiting xs ys
        → AllZip (IsLoadingCopy clones_key) (loading_entries ticket_of xs)
        (loading_entries ticket_of ys)
    loading_entries-copied [] [] copies = tt
    loading_entries-copied [] (y ∷ ys) copies = absurd copies
    loading_entries-copied (x ∷ xs) [] copies = absurd copies
    loading_entries-copied (x ∷ xs) (y ∷ ys) copies = (
      record {
        key = copies.0.key;
        same = λ i. record {
          key = y.key;
          queue = copies.0.queue i;
          ticket = copies.0.placeholder i;
        };
      },
      loading_entries-copied xs ys copies.1,
    )

    -- each copy stands under the hash of its key
    hashed-copied : (xs ys : List (HeldItem K V)) → AllZip Held xs ys
        → AllByRecursion (λ held. held.hash ≡ hash_of held.item.key) ys
    hashed-copied [] [] copies = tt
    hashed-copied [] (y ∷ ys) copies = absurd copies
    hashed-copied (x ∷ xs) [] copies = absurd copies
    hashed-copied (x ∷ xs) (y ∷ ys) copies = (copies.0.hash, hashed-copied xs ys copies.1)

    waiting-copied : (xs ys : List (HeldLoading K P)) → AllZip Waiting xs ys
        → AllByRecursion (λ waiting. waiting.hash ≡ hash_of waiting.key) ys
    waiting-copied [] [] copies = tt
    waiting-copied [] (y ∷ ys) copies = absurd copies
    waiting-copied (x ∷ xs) [] copies = absurd copies
    waiting-copied (x ∷ xs) (y ∷ ys) copies = (copies.0.hash, waiting-copied xs ys copies.1)

    module _ {W A T : Type 0} (contents : Contents K V W A T P) (copy : Lists K V P)
        (are : AreCopies clones_key clones_value hash_of (IsKeptAgain ticket_of)
        contents.lists copy) where
      -- the state of copied lists is a copy of the state
      pub state_of-copied : IsCopyOf clones_key clones_value (state_of ticket_of contents)
          (state_of ticket_of (record contents { lists = copy }))
      state_of-copied =
          let new = state_of ticket_of (record contents { lists = copy }) in
          record {
            hot = items_of-copied contents.lists.hot copy.hot are.hot;
            cold = items_of-copied contents.lists.cold copy.cold are.cold;
            still = items_of-copied contents.lists.still copy.still are.still;
            loading = loading_entries-copied contents.lists.loading copy.loading are.loading;
            same = λ i. record new { ghosts = hashes_of (are.ghosts i) };
          }

      -- and the copied contents are sound as the contents are, whatever readers counted
      module _ (equal : K → K → Bool) (laws : IsEquivalence equal)
          (equals : ClonesAreEqual equal clones_key) (shared_hits shared_misses : T)
          (hash : K → ℕ) where
        pub IsSound-copied : IsSound ticket_of equal hash contents
            → IsSound ticket_of equal hash_of (record contents {
              lists = copy;
              shared_hits = shared_hits;
              shared_misses = shared_misses;
              advances = 0;
              visits = 0;
            })
        IsSound-copied sound = record {
          valid = IsCopyOf-valid equal equals laws (state_of ticket_of contents)
              (state_of ticket_of (record contents { lists = copy })) state_of-copied sound.valid;
          sized = sound.sized;
          hashed = record {
            hot = hashed-copied contents.lists.hot copy.hot are.hot;
            cold = hashed-copied contents.lists.cold copy.cold are.cold;
            still = hashed-copied contents.lists.still copy.still are.still;
            loading = waiting-copied contents.lists.loading copy.loading are.loading;
          };
        }
