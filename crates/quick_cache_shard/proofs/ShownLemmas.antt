-- What a look-up shows of the item that it found, and what of its shard it leaves as it was.
use Rattle.std.proofs.Common.{◌≡◌, ℕ, Bool, Some, refl, sym, subst, ap, ◌∙◌}
use Rattle.std.specs.Int.NonZero.{non_zero_u32_get as number}
use Rattle.std.specs.declared.num.NonZeroU32.{NonZeroU32 as Token}
use Rattle.quick_cache_model.specs.CacheState.{CacheState, Item, UpToOrder}
use Rattle.quick_cache_model.specs.Lookups.{LooksUp, looked_up}
use Rattle.quick_cache_store.specs.Lists.{Lists, HeldItem, AreApart, IsItemOf}
use Rattle.quick_cache_store.proofs.lists.StandingLemmas.{found-same}
use Rattle.quick_cache_policy.specs.Contents.{state_of, work_of}
use Rattle.quick_cache_policy.specs.Places.{places_of}
use Rattle.quick_cache_policy.specs.Tests.{IsPassed, PassesTest}
use Rattle.quick_cache_policy.specs.declared.contents.Contents.{Contents}
use Rattle.quick_cache_shard.specs.Shard.{Shard, KeepsWork}

-- each token has one item at most
pub IsItemOf-one : {K V P : Type 0} (lists : Lists K V P) → AreApart lists → (token : ℕ)
    → (item other : Item K V) → IsItemOf lists token item → IsItemOf lists token other
    → other ≡ item
IsItemOf-one {K} {V} {P} lists apart token item other is also =
    ap (λ (held : HeldItem K V). held.item)
    (found-same lists apart token
    (record { token = token; hash = is.0; item = item })
    (record { token = token; hash = also.0; item = other }) is.1 also.1 refl refl)

-- another look at what was found shows the same
pub LooksUp-shown : {K V X : Type 0} (stands_for : K → Bool) (old new : CacheState K V)
    (of : Item K V → X) (shown other : X) → other ≡ shown
    → UpToOrder (LooksUp stands_for old of (Some shown)) new
    → UpToOrder (LooksUp stands_for old of (Some other)) new
LooksUp-shown stands_for old new of shown other same looks =
    subst (λ x. UpToOrder (LooksUp stands_for old of (Some x)) new) (sym same) looks

module _ {K V P W A T : Type 0} (ticket_of : P → ℕ) (old new : Contents K V W A T P) where
  -- the item that is shown is the one that passed
  pub passed-shown : (stands_for : K → Bool) (answers : V → Bool → Type 0) (token : Token)
      → IsPassed ticket_of stands_for answers old token new → AreApart new.lists
      → (item : Item K V) → IsItemOf new.lists (number token) item
      → (value : V) → value ≡ item.value
      → PassesTest stands_for answers (state_of ticket_of old) value (state_of ticket_of new)
  passed-shown stands_for answers token passed apart item stands value is =
      let looks = passed.looks in
      let shown = IsItemOf-one new.lists apart (number token) (looked_up old.mark_cut looks.item)
      item looks.now stands in
      let same : value ≡ looks.item.value = is ∙ ap (λ (i : Item K V). i.value) shown in
      subst (λ v. PassesTest stands_for answers (state_of ticket_of old) v (state_of ticket_of new))
      (sym same) (record { looks_up = looks.value; said = passed.said })

module _ {K V P W A T We B L : Type 0} (ticket_of : P → ℕ) (weigher : We) (builder : B)
    (lifecycle : L) where
  -- a shard of these contents
  abbrev pub shard_of : Contents K V W A T P → Shard K V We B L
  shard_of contents = record {
    state = state_of ticket_of contents;
    places = places_of contents.lists;
    weigher = weigher;
    builder = builder;
    lifecycle = lifecycle;
    room = contents.lists.room;
    work = work_of contents;
  }

  module _ (old new : Contents K V W A T P) (work : work_of new ≡ work_of old)
      (shard : Shard K V We B L) (is : shard_of old ≡ shard) where
    -- where no item moved, and nothing was worked, only the state has changed
    pub same-state : places_of new.lists ≡ places_of old.lists → new.lists.room ≡ old.lists.room
        → shard_of new ≡ record shard { state = state_of ticket_of new }
    same-state places room =
        (λ i. record {
          state = state_of ticket_of new;
          places = places i;
          weigher = weigher;
          builder = builder;
          lifecycle = lifecycle;
          room = room i;
          work = work i;
        }) ∙ ap (λ (s : Shard K V We B L). record s { state = state_of ticket_of new }) is

    -- where nothing was worked
    pub same-work : KeepsWork shard (shard_of new)
    same-work =
        (λ i. record (shard_of new) { work = work i }) ∙ ap (λ (s : Shard K V We B L). record s {
          state = state_of ticket_of new;
          places = places_of new.lists;
          room = new.lists.room;
        }) is
