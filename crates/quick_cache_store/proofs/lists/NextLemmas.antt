-- The first item above a token.
use Rattle.std.proofs.Common.{◌≡◌, ℕ, zero, suc, ◌+◌, ◌-◌, ◌<◌, Bool, true, false, true≢false, List, [], ◌∷◌, drop, get_or, Option, Some}
use Rattle.std.proofs.Common.{None, MatchOption, refl, sym, ap, subst, ◌∙◌, arith}
use Rattle.std.specs.Int.NonZero.{non_zero_u32_get}
use Rattle.std.specs.declared.num.NonZeroU32.{NonZeroU32 as Token}
use Rattle.std.proofs.lemmas.List.{get_or-drop}
use Rattle.quick_cache_store.specs.Pool.{Pool, entries_past, entries_after, item_at}
use Rattle.quick_cache_index.specs.Index.{Index}
use Rattle.quick_cache_store.specs.declared.slots.entry.Entry.{Entry}
use Rattle.quick_cache_store.specs.declared.slots.entry.Slot.{Slot}
use Rattle.quick_cache_store.specs.Rings.{Rings}
use Rattle.quick_cache_store.specs.Lists.{HasItemToken, number_or_zero, IsFirstAbove}
use Rattle.quick_cache_store.specs.ListSlots.{is_item, first_item}
use Rattle.quick_cache_store.specs.Sound.{lists_of, IsStanding}
use Rattle.quick_cache_store.proofs.lists.ItemLemmas.{item_by_token}
use Rattle.quick_cache_store.proofs.lists.StandLemmas.{HasItem-from}

some_number : (m n : ℕ) → Some m ≡ Some n → m ≡ n
some_number m n e = cc

module _ {K V P T : Type 0} where
  some_true : (x y : Slot K V P T) → Some x ≡ Some y → is_item x ≡ is_item y
  some_true x y e = let same : x ≡ y = cc in ap is_item same

  none_past : (passed : ℕ) (slots : List (Option (Slot K V P T)))
      → first_item (entries_past passed slots) ≡ None → (i : ℕ) (x : Slot K V P T)
      → get_or slots i None ≡ Some x → is_item x ≡ false
  none_past passed [] e i x at = absurd (cc)
  none_past passed (None ∷ rest) e zero x at = absurd (cc)
  none_past passed (None ∷ rest) e (suc i) x at = none_past (passed + 1) rest e i x at
  none_past passed (Some y ∷ rest) e i x at =
      by_item (λ none j later. none_past (passed + 1) rest none j x later) (is_item y) refl
    where
      by_item : (first_item (entries_past (passed + 1) rest) ≡ None → (j : ℕ)
          → get_or rest j None ≡ Some x → is_item x ≡ false) → (b : Bool) → is_item y ≡ b
          → is_item x ≡ false
      by_item on true is = let some : Some (passed + 1) ≡ None = rw is at e in absurd (cc)
      by_item on false is = by_index i at
        where
          by_index : (j : ℕ) → get_or (Some y ∷ rest) j None ≡ Some x → is_item x ≡ false
          by_index zero here = sym (some_true y x here) ∙ is
          by_index (suc j) later = on (rw is at e) j later

  record IsFirstPast (passed : ℕ) (slots : List (Option (Slot K V P T))) (n : ℕ) : Type 0 where
    index : ℕ
    slot : Slot K V P T
    named : n ≡ passed + index + 1
    here : get_or slots index None ≡ Some slot
    is : is_item slot ≡ true
    earlier : (j : ℕ) (y : Slot K V P T) → j < index → get_or slots j None ≡ Some y
        → is_item y ≡ false

  first_past : (passed : ℕ) (slots : List (Option (Slot K V P T))) (n : ℕ)
      → first_item (entries_past passed slots) ≡ Some n → IsFirstPast passed slots n
  first_past passed [] n e = absurd (cc)
  first_past passed (None ∷ rest) n e =
      let f = first_past (passed + 1) rest n e in
      record {
        index = suc f.index;
        slot = f.slot;
        named = omega (arith, f.named);
        here = f.here;
        is = f.is;
        earlier = λ j y below at. by_index f.earlier j y below at;
      }
    where
      by_index : {i : ℕ} → ((j : ℕ) (y : Slot K V P T) → j < i → get_or rest j None ≡ Some y
          → is_item y ≡ false) → (j : ℕ) (y : Slot K V P T) → j < suc i
          → get_or (None ∷ rest) j None ≡ Some y → is_item y ≡ false
      by_index earlier zero y below at = absurd (cc)
      by_index earlier (suc j) y below at = earlier j y (omega (arith, below)) at
  first_past passed (Some x ∷ rest) n e =
      by_item (λ later. first_past (passed + 1) rest n later) (is_item x) refl
    where
      by_index : {i : ℕ} → is_item x ≡ false
          → ((j : ℕ) (y : Slot K V P T) → j < i → get_or rest j None ≡ Some y → is_item y ≡ false)
          → (j : ℕ) (y : Slot K V P T) → j < suc i → get_or (Some x ∷ rest) j None ≡ Some y
          → is_item y ≡ false
      by_index isnt earlier zero y below at = sym (some_true x y at) ∙ isnt
      by_index isnt earlier (suc j) y below at = earlier j y (omega (arith, below)) at

      by_item : (first_item (entries_past (passed + 1) rest) ≡ Some n
          → IsFirstPast (passed + 1) rest n) → (b : Bool) → is_item x ≡ b
          → IsFirstPast passed (Some x ∷ rest) n
      by_item on true is =
          let same : Some (passed + 1) ≡ Some n = rw is at e in
          record {
            index = 0;
            slot = x;
            named = omega (arith, some_number (passed + 1) n same);
            here = refl;
            is = is;
            earlier = λ j y below at. absurd (omega (arith, below));
          }
      by_item on false isnt =
          let f = on (rw isnt at e) in
          record {
            index = suc f.index;
            slot = f.slot;
            named = omega (arith, f.named);
            here = f.here;
            is = f.is;
            earlier = λ j y below at. by_index isnt f.earlier j y below at;
          }

module _ {K V P T : Type 0} (slab : Pool (Slot K V P T)) (index : Index)
    (rings : Rings) (standing : IsStanding slab rings) (k : ℕ) where
  shown_at : (u : ℕ) → k < u → item_at slab u ≡ get_or (drop k slab.slots) (u - k - 1) None
  shown_at zero below = absurd (omega (arith, below))
  shown_at (suc i) below =
      let index : k + (suc i - k - 1) ≡ i = omega (arith, below) in
      sym (get_or-drop k slab.slots (suc i - k - 1) None ∙ ap (λ j. get_or slab.slots j None) index)

  -- an item shows at its token
  not_item : (u : ℕ) → ((x : Slot K V P T) → item_at slab u ≡ Some x → is_item x ≡ false)
      → ¬ HasItemToken (lists_of slab index rings) u
  not_item u isnt has =
      let item = item_by_token slab index rings u has in
      true≢false (isnt _ item.2)

  HasItem-at : (u : ℕ) (x : Slot K V P T) → item_at slab u ≡ Some x → is_item x ≡ true
      → HasItemToken (lists_of slab index rings) u
  HasItem-at u x at is = by_entry x.hash x.entry at is
    where
      by_entry : (hash : ℕ) (entry : Entry K V P T)
          → item_at slab u ≡ Some (record { hash = hash; entry = entry })
          → is_item (record { hash = hash; entry = entry }) ≡ true
          → HasItemToken (lists_of slab index rings) u
      by_entry hash (Entry.Item item) here item_is = (
        record { token = u; hash = hash; item = item },
        HasItem-from slab index rings
            standing u hash item here,
        refl,
      )
      by_entry hash (Entry.Loading awaited) here item_is = absurd (true≢false (sym item_is))
      by_entry hash Entry.Ghost here item_is = absurd (true≢false (sym item_is))

  pub IsFirstAbove-none : first_item (entries_after slab k) ≡ None
      → IsFirstAbove (lists_of slab index rings) k None
  IsFirstAbove-none e = record {
    none = λ _ u below. not_item u
        (λ x at. none_past k (drop k slab.slots) e (u - k - 1) x (sym (shown_at u below) ∙ at));
    found = λ first some. absurd (cc);
    least = λ first u some. absurd (cc);
  }

  pub IsFirstAbove-some : (token : Token)
      → first_item (entries_after slab k) ≡ Some (non_zero_u32_get token)
      → IsFirstAbove (lists_of slab index rings) k (Some token)
  IsFirstAbove-some token e = record {
    none = λ nothing. absurd (cc);
    found = λ first some. subst (λ (t : Token). (k < non_zero_u32_get t)
        × HasItemToken (lists_of slab index rings) (non_zero_u32_get t))
        (token_same first some) (above, HasItem-at (non_zero_u32_get token) f.slot there f.is);
    least = λ first u some below before.
        let under : u < non_zero_u32_get token =
        subst (λ (t : Token). u < non_zero_u32_get t) (sym (token_same first some)) before in
        not_item u (λ x at. f.earlier (u - k - 1) x (omega (arith, below, under, f.named))
        (sym (shown_at u below) ∙ at));
  }
    where
      f : IsFirstPast k (drop k slab.slots) (non_zero_u32_get token)
      f = first_past k (drop k slab.slots) (non_zero_u32_get token) e

      above : k < non_zero_u32_get token
      above = omega (arith, f.named)

      there : item_at slab (non_zero_u32_get token) ≡ Some f.slot
      there = shown_at (non_zero_u32_get token) above
          ∙ ap (λ j. get_or (drop k slab.slots) j None) (omega (arith, f.named)) ∙ f.here

      token_same : (first : Token) → Some token ≡ Some first → token ≡ first
      token_same first some = cc

module _ {S : Type 0} where
  pub entries_from : (slab : Pool S) (token : Option Token) (result : List (ℕ × S))
      → MatchOption token (result ≡ entries_after slab 0)
      (λ t. result ≡ entries_after slab (non_zero_u32_get t))
      → result ≡ entries_after slab (number_or_zero token)
  entries_from slab None result is = is
  entries_from slab (Some t) result is = is
