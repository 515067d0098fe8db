-- What stays sound: the contents of a cache whose cold ring was turned, or an item of it touched.
use Rattle.std.proofs.Common.{◌≡◌, ℕ, ◌≤◌, Bool, List, [], ◌∷◌, length, refl, sym, ap, subst, ◌∙◌, arith, length-append}
use Rattle.std.specs.List.{AllByRecursion}
use Rattle.std.proofs.lemmas.List.{length-map}
use Rattle.quick_cache_model.specs.declared.queue.Queue.{Queue}
use Rattle.quick_cache_model.specs.CacheState.{Item, IsRingItem}
use Rattle.quick_cache_model.specs.Touches.{TakesTouches}
use Rattle.quick_cache_model.proofs.EachElement.{all-push}
use Rattle.quick_cache_model.proofs.KeyCounts.{one, keys, keys-cons, keys-append}
use Rattle.quick_cache_model.proofs.TouchLaws.{with_touches-key, with_touches-weight, with_touches-queue, with_touches-mark}
use Rattle.quick_cache_model.proofs.Valid.States.{IsValid-cold}
use Rattle.quick_cache_store.specs.Lists.{HeldItem, turned}
use Rattle.quick_cache_store.specs.Views.{items_of}
use Rattle.quick_cache_store.proofs.lists.CallerLemmas.{items_of-split}
use Rattle.quick_cache_policy.specs.declared.contents.Contents.{Contents}
use Rattle.quick_cache_policy.specs.Contents.{IsSound, state_of}

-- what holds of each element of a list holds of each once it is turned
pub all-turned : {X : Type 0} (F : X → Type 0) (xs : List X) → AllByRecursion F xs
    → AllByRecursion F (turned xs)
all-turned F [] all = tt
all-turned F (x ∷ xs) all = all-push F xs x all.1 all.0

-- a turned list is as long
pub length-turned : {X : Type 0} (xs : List X) → length (turned xs) ≡ length xs
length-turned [] = refl
length-turned (x ∷ xs) = omega (arith, length-append xs (x ∷ []))

module _ {K V : Type 0} where
  -- there are as many items as entries
  pub items_of-length : (held : List (HeldItem K V)) → length (items_of held) ≡ length held
  items_of-length held = length-map held (λ h. h.item)

  -- a turned ring has the same items, turned
  pub items_of-turned : (held : List (HeldItem K V))
      → items_of (turned held) ≡ turned (items_of held)
  items_of-turned [] = refl
  items_of-turned (x ∷ xs) = items_of-split xs [] x

  -- a turned list has as many keys
  pub keys-turned : (test : K → Bool) (items : List (Item K V))
      → keys test (turned items) ≡ keys test items
  keys-turned test [] = refl
  keys-turned test (x ∷ xs) =
      omega (arith, keys-append test xs (x ∷ []), keys-cons test x [], keys-cons test x xs)

  -- touches take no item out of its ring
  pub TakesTouches-ring : (cut : ℕ) (may_count : ℕ → Type 0) (old new : Item K V)
      → TakesTouches cut may_count old new
      → IsRingItem cut Queue.Cold old → IsRingItem cut Queue.Cold new
  TakesTouches-ring cut may_count old new takes ring =
      subst (IsRingItem cut Queue.Cold) (sym takes.2) (record {
        weighs = omega (arith, ring.weighs, with_touches-weight cut takes.0 old);
        of_queue = with_touches-queue cut takes.0 old ∙ ring.of_queue;
        marked = with_touches-mark cut takes.0 old ring.marked;
      })

  -- nor do they change its key
  pub TakesTouches-key : (cut : ℕ) (may_count : ℕ → Type 0) (old new : Item K V)
      → TakesTouches cut may_count old new → new.key ≡ old.key
  TakesTouches-key cut may_count old new takes =
      ap (λ (i : Item K V). i.key) takes.2 ∙ with_touches-key cut takes.0 old

module _ {K V P W A T : Type 0} (ticket_of : P → ℕ) (equal : K → K → Bool) (hash : K → ℕ)
    (contents : Contents K V W A T P) (sound : IsSound ticket_of equal hash contents) where
  -- with another cold ring, whose items are in their place
  pub IsSound-cold : (cold : List (HeldItem K V))
      → ((test : K → Bool) → keys test (items_of cold)
      ≤ keys test (items_of contents.lists.cold))
      → AllByRecursion (IsRingItem contents.mark_cut Queue.Cold) (items_of cold)
      → AllByRecursion (λ held. held.hash ≡ hash held.item.key) cold
      → IsSound ticket_of equal hash
      (record contents { lists = record contents.lists { cold = cold } })
  IsSound-cold cold fewer ring hashed = record {
    valid = IsValid-cold equal (items_of cold) (state_of ticket_of contents) fewer ring sound.valid;
    sized = sound.sized;
    hashed = record {
      hot = sound.hashed.hot;
      cold = hashed;
      still = sound.hashed.still;
      loading = sound.hashed.loading;
    };
  }

  -- with the cold ring turned
  pub IsSound-cold_turned : IsSound ticket_of equal hash
      (record contents { lists = record contents.lists { cold = turned contents.lists.cold } })
  IsSound-cold_turned =
      IsSound-cold (turned contents.lists.cold)
      (λ test. omega (
        arith,
        keys-turned test (items_of contents.lists.cold),
        ap (keys test) (items_of-turned contents.lists.cold),
      ))
      (subst (AllByRecursion (IsRingItem contents.mark_cut Queue.Cold))
      (sym (items_of-turned contents.lists.cold))
      (all-turned (IsRingItem contents.mark_cut Queue.Cold) (items_of contents.lists.cold)
      sound.valid.in_cold))
      (all-turned (λ (held : HeldItem K V). held.hash ≡ hash held.item.key) contents.lists.cold
      sound.hashed.cold)

  -- with touches taken in at the first cold item
  pub IsSound-cold_touched : (may_count : ℕ → Type 0) (held : HeldItem K V)
      (rest : List (HeldItem K V)) (touched : Item K V) → contents.lists.cold ≡ held ∷ rest
      → TakesTouches contents.mark_cut may_count held.item touched
      → IsSound ticket_of equal hash
      (record contents {
        lists = record contents.lists { cold = record held { item = touched } ∷ rest };
      })
  IsSound-cold_touched may_count held rest touched split takes =
      let key = TakesTouches-key contents.mark_cut may_count held.item touched takes in
      let ring : AllByRecursion (IsRingItem contents.mark_cut Queue.Cold) (items_of (held ∷ rest)) =
      subst (λ xs. AllByRecursion (IsRingItem contents.mark_cut Queue.Cold) (items_of xs)) split
      sound.valid.in_cold in
      let hashes : AllByRecursion (λ (h : HeldItem K V). h.hash ≡ hash h.item.key) (held ∷ rest) =
      subst (AllByRecursion (λ (h : HeldItem K V). h.hash ≡ hash h.item.key)) split
      sound.hashed.cold in
      IsSound-cold (record held { item = touched } ∷ rest)
      (λ test. omega (
        arith,
        keys-cons test touched (items_of rest),
        keys-cons test held.item (items_of rest),
        ap (one test) key,
        ap (λ (xs : List (HeldItem K V)). keys test (items_of xs)) split,
      ))
      (TakesTouches-ring contents.mark_cut may_count held.item touched takes ring.0, ring.1)
      (hashes.0 ∙ ap hash (sym key), hashes.1)
