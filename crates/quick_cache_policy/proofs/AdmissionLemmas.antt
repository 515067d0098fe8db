-- An item that a query found and that is taken out: in the state, and among the keys that stand
-- under their hashes.
use Rattle.std.proofs.Common.{◌≡◌, ℕ, Bool, false, List, [], ◌∷◌, ◌++◌, refl, sym, ap, subst, ◌∙◌}
use Rattle.std.specs.List.{AllByRecursion}
use Rattle.quick_cache_model.specs.CacheState.{Item, Place, InHot, InCold, InStill, with_items, IsValid}
use Rattle.quick_cache_model.specs.Finding.{IsItemAt, HasNoItem}
use Rattle.quick_cache_model.specs.Hooks.{evicted}
use Rattle.quick_cache_model.specs.Writes.{TakesOutItem, was_there}
use Rattle.quick_cache_model.proofs.EachElement.{all-without}
use Rattle.quick_cache_model.proofs.Valid.Edits.{without-valid}
use Rattle.quick_cache_store.specs.Lists.{HeldItem, FindsItem, IsEntry, AreApart, Finds, items_at, without_entry}
use Rattle.quick_cache_store.specs.Views.{items_of}
use Rattle.quick_cache_store.specs.declared.slots.entry.Entry.{Entry}
use Rattle.quick_cache_store.specs.declared.slots.entry.Awaited.{Awaited}
use Rattle.quick_cache_store.specs.declared.lists.found.Found.{Found}
use Rattle.quick_cache_store.proofs.lists.CallerLemmas.{items_of-around, without-hot, without-cold, without-still}
use Rattle.quick_cache_store.proofs.lists.StandingLemmas.{not-loading, not-ghost, entry-is_item}
use Rattle.quick_cache_policy.specs.Contents.{AreHashed, IsSound, state_of}
use Rattle.quick_cache_policy.specs.Finding.{AreUnder}
use Rattle.quick_cache_policy.specs.declared.contents.Contents.{Contents}
use Rattle.quick_cache_policy.proofs.FindLemmas.{HasNoKey-state, HasNothing-state, IsItemAt-stands, IsLoadingAt-stands, HasNoItem-loading}

module _ {K V P W A T : Type 0} (ticket_of : P → ℕ) (stands_for : K → Bool) (hash : ℕ)
    (old : Contents K V W A T P) where
  -- The item of that token was found at a place of the state, and this is the state without it.
  -- Keys that stood under their hashes do so still.
  pub record LeavesItem (token : ℕ) (item : Item K V) : Type 0 where
    pub place : Place
    pub before : List (Item K V)
    pub after : List (Item K V)
    pub at : IsItemAt stands_for (state_of ticket_of old) place before item after
    pub rest : state_of ticket_of (record old { lists = without_entry false token old.lists })
        ≡ with_items place (before ++ after) (state_of ticket_of old)
    pub hashed : (hashed_by : K → ℕ) → AreHashed hashed_by old.lists
        → AreHashed hashed_by (without_entry false token old.lists)

  module _ (apart : AreApart old.lists) (token : ℕ)
      (finds : FindsItem stands_for hash old.lists token) where
    abbrev held : HeldItem K V
    held = record { token = token; hash = hash; item = finds.item }

    -- the item that was found leaves its place
    pub FindsItem-leaves : LeavesItem token finds.item
    FindsItem-leaves =
        go finds.stands.place finds.stands.stands.before finds.stands.stands.after
        finds.stands.stands.split
      where
        under : (K → ℕ) → HeldItem K V → Type 0
        under hashed_by h = h.hash ≡ hashed_by h.item.key

        go : (place : Place) (before after : List (HeldItem K V))
            → items_at place old.lists ≡ before ++ held ∷ after → LeavesItem token finds.item
        go InHot before after split =
            let lists = without-hot old.lists apart false before after held split in
            let around = items_of-around false before after in
            record {
              place = InHot;
              before = items_of before;
              after = items_of after;
              at = IsItemAt-stands ticket_of stands_for hash old InHot before held after split
                  finds.passes;
              rest = (λ i. state_of ticket_of (record old { lists = lists i }))
                  ∙ (λ i. record (state_of ticket_of old) { hot = around i });
              hashed = λ hashed_by are. subst (AreHashed hashed_by) (sym lists) (record {
                hot = all-without (under hashed_by) before held after
                    (subst (AllByRecursion (under hashed_by)) split are.hot);
                cold = are.cold;
                still = are.still;
                loading = are.loading;
              });
            }
        go InCold before after split =
            let lists = without-cold old.lists apart false before after held split in
            let around = items_of-around false before after in
            record {
              place = InCold;
              before = items_of before;
              after = items_of after;
              at = IsItemAt-stands ticket_of stands_for hash old InCold before held after split
                  finds.passes;
              rest = (λ i. state_of ticket_of (record old { lists = lists i }))
                  ∙ (λ i. record (state_of ticket_of old) { cold = around i });
              hashed = λ hashed_by are. subst (AreHashed hashed_by) (sym lists) (record {
                hot = are.hot;
                cold = all-without (under hashed_by) before held after
                    (subst (AllByRecursion (under hashed_by)) split are.cold);
                still = are.still;
                loading = are.loading;
              });
            }
        go InStill before after split =
            let lists = without-still old.lists apart false before after held split in
            let around = items_of-around false before after in
            record {
              place = InStill;
              before = items_of before;
              after = items_of after;
              at = IsItemAt-stands ticket_of stands_for hash old InStill before held after split
                  finds.passes;
              rest = (λ i. state_of ticket_of (record old { lists = lists i }))
                  ∙ (λ i. record (state_of ticket_of old) { still = around i });
              hashed = λ hashed_by are. subst (AreHashed hashed_by) (sym lists) (record {
                hot = are.hot;
                cold = are.cold;
                still = all-without (under hashed_by) before held after
                    (subst (AllByRecursion (under hashed_by)) split are.still);
                loading = are.loading;
              });
            }

    -- what a call gives of the token is the item that was found
    pub FindsItem-item : {U : Type 0} (taken_hash : ℕ) (entry : Entry K V P U) (item : Item K V)
        → IsEntry old.lists token taken_hash entry → entry ≡ Entry.Item item
        → item ≡ finds.item
    FindsItem-item taken_hash entry item is item_is =
        ap (λ (h : HeldItem K V). h.item)
        (entry-is_item old.lists apart token taken_hash entry is held finds.stands refl item item_is)

    -- it is no placeholder
    pub FindsItem-loading : {U : Type 0} (taken_hash : ℕ) (entry : Entry K V P U)
        (awaited : Awaited K P) → IsEntry old.lists token taken_hash entry
        → entry ≡ Entry.Loading awaited → ⊥
    FindsItem-loading taken_hash entry awaited is loading_is =
        not-loading old.lists apart token taken_hash entry is held finds.stands refl awaited
        loading_is

    -- and no ghost
    pub FindsItem-ghost : {U : Type 0} (taken_hash : ℕ) (entry : Entry K V P U)
        → IsEntry old.lists token taken_hash entry → entry ≡ Entry.Ghost → ⊥
    FindsItem-ghost taken_hash entry is ghost_is =
        not-ghost old.lists apart token taken_hash entry is held finds.stands refl ghost_is

module _ {K V P W A T : Type 0} (ticket_of : P → ℕ) (equal : K → K → Bool) (key : K) (hash : ℕ)
    (old : Contents K V W A T P) where
  -- where no item was found, there is none under the key
  pub Finds-no_item : IsValid equal (state_of ticket_of old)
      → AreUnder (equal key) hash old.lists
      → (found : Found) → Finds (equal key) hash old.lists found
      → ((token : _) → found ≡ Found.Item token → ⊥)
      → HasNoItem (equal key) (state_of ticket_of old)
  Finds-no_item valid under (Found.Item token) finds other = absurd (other token refl)
  Finds-no_item valid under (Found.Loading token) finds other =
      let at = finds.stands in
      HasNoItem-loading (equal key) (state_of ticket_of old) _ _ _ (valid.one_entry_a_key key)
      (IsLoadingAt-stands ticket_of (equal key) hash old at.before finds.waiting at.after at.split
      finds.passes)
  Finds-no_item valid under (Found.Ghost token) finds other =
      (HasNoKey-state ticket_of (equal key) hash old under finds.0).items
  Finds-no_item valid under Found.Nothing finds other =
      (HasNothing-state ticket_of (equal key) hash old under finds).keys.items

  -- an item that was found was taken out
  module _ {hashed : K → ℕ} (sound : IsSound ticket_of equal hashed old) (token : ℕ)
      (item : Item K V) (leaves : LeavesItem ticket_of (equal key) hash old token item) where
    pub LeavesItem-takes : TakesOutItem (equal key) (state_of ticket_of old)
        (evicted item.queue item.key item.value ∷ [])
        (state_of ticket_of (record old { lists = without_entry false token old.lists }))
    LeavesItem-takes =
        subst (TakesOutItem (equal key) (state_of ticket_of old)
        (evicted item.queue item.key item.value ∷ [])) (sym leaves.rest)
        (was_there leaves.place leaves.before item leaves.after leaves.at)

    pub LeavesItem-sound : IsSound ticket_of equal hashed
        (record old { lists = without_entry false token old.lists })
    LeavesItem-sound = record {
      valid = subst (IsValid equal) (sym leaves.rest)
          (without-valid equal leaves.place leaves.before item leaves.after
          (state_of ticket_of old) leaves.at.split sound.valid);
      sized = sound.sized;
      hashed = leaves.hashed hashed sound.hashed;
    }
