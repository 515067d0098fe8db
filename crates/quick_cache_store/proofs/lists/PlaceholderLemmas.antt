-- A walk over the slots in search of a placeholder.
use Rattle.std.proofs.Common.{◌≡◌, ℕ, zero, suc, ◌+◌, Bool, true, false, true≢false, List, [], ◌∷◌, ◌++◌, length, drop, get_or, Option}
use Rattle.std.proofs.Common.{Some, None, refl, sym, ap, subst, ◌∙◌, arith}
use Rattle.std.specs.Bool.{OnTrue}
use Rattle.std.specs.List.{AllByRecursion}
use Rattle.quick_cache_model.proofs.EachElement.{all-push}
use Rattle.quick_cache_store.specs.Pool.{Pool, entries_past, entries_after, item_at}
use Rattle.quick_cache_index.specs.Index.{Index}
use Rattle.quick_cache_store.specs.declared.slots.entry.Entry.{Entry}
use Rattle.quick_cache_store.specs.declared.slots.entry.Slot.{Slot}
use Rattle.quick_cache_store.specs.Rings.{Rings}
use Rattle.quick_cache_store.specs.Lists.{HeldLoading}
use Rattle.quick_cache_store.specs.Placeholders.{HasNoPlaceholder, FindsPlaceholder, is_meant, PassesNoneMeant}
use Rattle.quick_cache_store.specs.ListSlots.{loading_of}
use Rattle.quick_cache_store.specs.Sound.{upto, lists_of, IsStanding}
use Rattle.quick_cache_store.proofs.lists.GatherLemmas.{gather-all}
use Rattle.quick_cache_store.proofs.lists.StandLemmas.{StandsIn-loading}

-- what holds where an answer is yes
pub on-true : {P : Type 0} (b : Bool) → (b ≡ true → P) → OnTrue b P
on-true true is = is refl
on-true false is = tt

-- ---- the entries of a list of slots

module _ {S : Type 0} where
  first-of : (n m : ℕ) (x y : S) (xs ys : List (ℕ × S)) → (n, x) ∷ xs ≡ (m, y) ∷ ys
      → (n ≡ m) × (x ≡ y)
  first-of n m x y xs ys e =
      let same : (n, x) ≡ (m, y) = ap (λ (l : List (ℕ × S)). get_or l 0 (m, y)) e in
      (ap (λ (p : ℕ × S). p.0) same, ap (λ (p : ℕ × S). p.1) same)

  -- an entry that comes stands in its slot
  entry-past : (passed : ℕ) (slots : List (Option S)) (before : List (ℕ × S)) (t : ℕ) (slot : S)
      (after : List (ℕ × S)) → entries_past passed slots ≡ before ++ (t, slot) ∷ after
      → (i : ℕ) × (t ≡ suc (passed + i)) × (get_or slots i None ≡ Some slot)
  entry-past passed [] [] t slot after e = absurd (cc)
  entry-past passed [] (x ∷ before) t slot after e = absurd (cc)
  entry-past passed (None ∷ rest) before t slot after e =
      let f = entry-past (passed + 1) rest before t slot after e in
      (suc f.0, omega (arith, f.1), f.2)
  entry-past passed (Some s ∷ rest) [] t slot after e =
      let same = first-of (passed + 1) t s slot (entries_past (passed + 1) rest) after e in
      let named : passed + 1 ≡ t = same.0 in
      (0, omega (arith, named), ap (λ x. Some x) same.1)
  entry-past passed (Some s ∷ rest) (x ∷ before) t slot after e =
      let f = entry-past (passed + 1) rest before t slot after (ap (drop 1) e) in
      (suc f.0, omega (arith, f.1), f.2)

  -- each entry comes
  entries-all : (Q : S → Type 0) (passed : ℕ) (slots : List (Option S))
      → AllByRecursion (λ (entry : ℕ × S). Q entry.1) (entries_past passed slots)
      → (i : ℕ) (slot : S) → get_or slots i None ≡ Some slot → Q slot
  entries-all Q passed [] all i slot at = absurd (cc)
  entries-all Q passed (None ∷ rest) all zero slot at = absurd (cc)
  entries-all Q passed (None ∷ rest) all (suc i) slot at =
      entries-all Q (passed + 1) rest all i slot at
  entries-all Q passed (Some s ∷ rest) all zero slot at =
      let same : s ≡ slot = cc in subst Q same all.0
  entries-all Q passed (Some s ∷ rest) all (suc i) slot at =
      entries-all Q (passed + 1) rest all.1 i slot at

-- ---- the walk

module _ {K V P T : Type 0} (means : P → Bool) where
  -- it has passed nothing
  pub PassesNoneMeant-start : (all : List (ℕ × Slot K V P T)) → PassesNoneMeant means all all
  PassesNoneMeant-start all = record { passed = []; split = refl; none = tt }

  -- it passes one more
  pub PassesNoneMeant-past : (all left rest : List (ℕ × Slot K V P T)) (t : ℕ)
      (slot : Slot K V P T) → left ≡ (t, slot) ∷ rest → is_meant means slot ≡ false
      → PassesNoneMeant means all left → PassesNoneMeant means all rest
  PassesNoneMeant-past all left rest t slot step isnt walk = record {
    passed = walk.passed ++ (t, slot) ∷ [];
    split = walk.split ∙ ap (λ xs. walk.passed ++ xs) step
        ∙ push walk.passed;
    none = all-push (λ (entry : ℕ × Slot K V P T). is_meant means entry.1 ≡ false) walk.passed
        (t, slot) walk.none isnt;
  }
    where
      push : (xs : List (ℕ × Slot K V P T))
          → xs ++ (t, slot) ∷ rest ≡ (xs ++ (t, slot) ∷ []) ++ rest
      push [] = refl
      push (x ∷ xs) = ap (λ ys. x ∷ ys) (push xs)

module _ {K V P T : Type 0} (slab : Pool (Slot K V P T)) (index : Index)
    (rings : Rings) (standing : IsStanding slab rings) (means : P → Bool) where
  -- a slot with a placeholder that is meant
  pub FindsPlaceholder-at : (t : ℕ) (slot : Slot K V P T) → item_at slab t ≡ Some slot
      → is_meant means slot ≡ true
      → FindsPlaceholder means (lists_of slab index rings) t
  FindsPlaceholder-at t slot at is = by_entry slot.hash slot.entry at is
    where
      by_entry : (hash : ℕ) (entry : Entry K V P T)
          → item_at slab t ≡ Some (record { hash = hash; entry = entry })
          → is_meant means (record { hash = hash; entry = entry }) ≡ true
          → FindsPlaceholder means (lists_of slab index rings) t
      by_entry hash (Entry.Item item) here meant = absurd (true≢false (sym meant))
      by_entry hash (Entry.Loading awaited) here meant = record {
        waiting = record {
          token = t;
          hash = hash;
          key = awaited.key;
          queue = awaited.queue;
          placeholder = awaited.placeholder;
        };
        named = refl;
        stands = StandsIn-loading slab index rings standing t _ _ here refl;
        passes = meant;
      }
      by_entry hash Entry.Ghost here meant = absurd (true≢false (sym meant))

  -- one that the walk comes to
  pub FindsPlaceholder-walk : (all left rest : List (ℕ × Slot K V P T)) (t : ℕ)
      (slot : Slot K V P T) → all ≡ entries_after slab 0 → left ≡ (t, slot) ∷ rest
      → PassesNoneMeant means all left → is_meant means slot ≡ true
      → FindsPlaceholder means (lists_of slab index rings) t
  FindsPlaceholder-walk all left rest t slot are step walk is =
      let f = entry-past 0 slab.slots walk.passed t slot rest
      (sym are ∙ walk.split ∙ ap (λ xs. walk.passed ++ xs) step) in
      let named : t ≡ suc f.0 = omega (arith, f.1) in
      FindsPlaceholder-at t slot (ap (λ n. item_at slab n) named ∙ f.2) is

  -- a placeholder that no slot has
  loading-isnt : (t : ℕ) (o : Option (Slot K V P T)) (waiting : HeldLoading K P)
      → ((slot : Slot K V P T) → o ≡ Some slot → is_meant means slot ≡ false)
      → loading_of t o ≡ Some waiting → means waiting.placeholder ≡ false
  loading-isnt t None waiting none is = absurd (cc)
  loading-isnt t (Some slot) waiting none is = by_entry slot.hash slot.entry (none slot refl) is
    where
      by_entry : (hash : ℕ) (entry : Entry K V P T)
          → is_meant means (record { hash = hash; entry = entry }) ≡ false
          → loading_of t (Some (record { hash = hash; entry = entry })) ≡ Some waiting
          → means waiting.placeholder ≡ false
      by_entry hash (Entry.Item item) isnt at = absurd (cc)
      by_entry hash (Entry.Loading awaited) isnt at =
          let same : record {
            token = t;
            hash = hash;
            key = awaited.key;
            queue = awaited.queue;
            placeholder = awaited.placeholder;
          } ≡ waiting = cc in
          subst (λ (w : HeldLoading K P). means w.placeholder ≡ false) same isnt
      by_entry hash Entry.Ghost isnt at = absurd (cc)

  -- the walk came to no other slot
  pub HasNoPlaceholder-walk : (all left : List (ℕ × Slot K V P T))
      → all ≡ entries_after slab 0 → left ≡ [] → PassesNoneMeant means all left
      → HasNoPlaceholder means (lists_of slab index rings)
  HasNoPlaceholder-walk all left are ends walk =
      gather-all (λ (waiting : HeldLoading K P). means waiting.placeholder ≡ false)
      (λ token. loading_of token (item_at slab token)) (upto (length slab.slots))
      (λ t waiting some is. loading-isnt t (item_at slab t) waiting (isnt t) is)
    where
      end : (xs : List (ℕ × Slot K V P T)) → xs ++ [] ≡ xs
      end [] = refl
      end (x ∷ xs) = ap (λ ys. x ∷ ys) (end xs)

      isnt : (t : ℕ) (slot : Slot K V P T) → item_at slab t ≡ Some slot
          → is_meant means slot ≡ false
      isnt zero slot at = absurd (cc)
      isnt (suc i) slot at =
          entries-all (λ s. is_meant means s ≡ false) 0 slab.slots
          (subst (AllByRecursion (λ (entry : ℕ × Slot K V P T). is_meant means entry.1 ≡ false))
          (sym (sym are ∙ walk.split ∙ ap (λ xs. walk.passed ++ xs) ends ∙ end walk.passed))
          walk.none) i slot at
