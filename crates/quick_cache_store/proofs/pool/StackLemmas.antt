-- Items and stack, as a list of slots, and what their edits make of it.
use Rattle.std.proofs.Common.{◌≡◌, ◌≢◌, ◌⊎◌, ℕ, zero, suc, ◌+◌, ◌-◌, ◌*◌, ◌<◌, ◌≤◌, min, max, cond, List, [], ◌∷◌, ◌++◌, length, reverse}
use Rattle.std.proofs.Common.{get_or, set, take, count_by, Option, Some, None, IsSome, is_some, refl, sym, ap, subst, length-set, ◌∙◌, inl}
use Rattle.std.proofs.Common.{inr, arith}
use Rattle.std.proofs.lemmas.Bool.{cases_lt, cases_eq}
use Rattle.std.proofs.lemmas.List.{get_or_past, get_or_push, get_or_append_left, length_push, length-take-le, reverse-append, take_more}
use Rattle.std.proofs.lemmas.List.Elements.{AllZip-push}
use Rattle.std.specs.List.{AllZip}
use Rattle.std.proofs.lemmas.List.Sums.{sum_by-cons}
use Rattle.quick_cache_store.specs.Pool.{Pool, IsSlotCopy, at_token, with_token, first_or, times, next_token, placed, removed, with_item}
use Rattle.quick_cache_store.specs.Pool.{IsParted}
use Rattle.quick_cache_store.specs.PoolEdits.{PlacesItem}
use Rattle.quick_cache_store.specs.Stack.{slot_if, slots_past, view_of, room_of, IsNoted, AreNoted, IsSound}
use Rattle.quick_cache_store.proofs.pool.AtTokens.{with_token-suc, at_token-suc, length-with_token, at_token-with_same, at_token-with_other}
use Rattle.quick_cache_store.proofs.pool.AtTokens.{at_token-past, at_token-push_same, at_token-push_other}
use Rattle.quick_cache_store.proofs.pool.TokenCounts.{times-here, times-other, times-append, times-push_same, times-push_other}
use Rattle.quick_cache_store.proofs.pool.TokenCounts.{times-reverse, length_once, tally, tally-all}

module _ {T : Type 0} where
  -- ---- slots

  pub slot_if-vacant : (n : ℕ) (x : T) → 0 < n → slot_if n x ≡ None
  slot_if-vacant zero x some = absurd (omega arith)
  slot_if-vacant (suc n) x some = refl

  pub slot_if-empty : (n : ℕ) (x : T) → slot_if n x ≡ None → 0 < n
  slot_if-empty zero x none = absurd (cc)
  slot_if-empty (suc n) x none = omega arith

  slot_if-taken : (n : ℕ) (x : T) → IsSome (slot_if n x) → n ≡ 0
  slot_if-taken zero x some = refl
  slot_if-taken (suc n) x some = absurd (cc)

  is_none-apart : (slot : Option T) → slot ≡ None → IsSome slot → ⊥
  is_none-apart None none some = cc
  is_none-apart (Some x) none some = cc

  pub length-slots_past : (free : List ℕ) (passed : ℕ) (xs : List T)
      → length (slots_past free passed xs) ≡ length xs
  length-slots_past free passed [] = refl
  length-slots_past free passed (x ∷ xs) = ap suc (length-slots_past free (passed + 1) xs)

  -- a slot behind `passed`
  slots_past-at : (free : List ℕ) (passed i : ℕ) (xs : List T) (d : T) → i < length xs
      → get_or (slots_past free passed xs) i None
      ≡ slot_if (times (passed + i + 1) free) (get_or xs i d)
  slots_past-at free passed i [] d below = absurd (omega arith)
  slots_past-at free passed zero (x ∷ xs) d below =
      let e : passed + 1 ≡ passed + 0 + 1 = omega arith in
      ap (λ (t : ℕ). slot_if (times t free) x) e
  slots_past-at free passed (suc i) (x ∷ xs) d below =
      let e : passed + 1 + i + 1 ≡ passed + suc i + 1 = omega arith in
      slots_past-at free (passed + 1) i xs d (omega arith)
      ∙ ap (λ (t : ℕ). slot_if (times t free) (get_or xs i d)) e

  -- the slot of a token
  pub slot_at : (free : List ℕ) (t i : ℕ) (xs : List T) (d : T) → i + 1 ≡ t → t ≤ length xs
      → at_token (slots_past free 0 xs) t None ≡ slot_if (times t free) (get_or xs i d)
  slot_at free t i xs d at within =
      let e : 0 + i + 1 ≡ t = omega arith in
      at_token-suc (slots_past free 0 xs) t i None at
      ∙ slots_past-at free 0 i xs d (omega arith)
      ∙ ap (λ (u : ℕ). slot_if (times u free) (get_or xs i d)) e

  -- a token with an item is within the slots, and not among the free
  pub occupied_within : (free : List ℕ) (t : ℕ) (xs : List T)
      → IsSome (at_token (slots_past free 0 xs) t None) → (0 < t) × (t ≤ length xs)
  occupied_within free zero xs some = absurd (cc)
  occupied_within free (suc i) xs some =
      elim (cases_lt i (length xs)) [
        | inl below ↦ (omega arith, omega arith)
        | inr above ↦
            let none = get_or_past (slots_past free 0 xs) i None
            (omega (arith, length-slots_past free 0 xs)) in
            absurd (is_none-apart (get_or (slots_past free 0 xs) i None) none some)
      ]

  pub occupied_apart : (free : List ℕ) (t : ℕ) (xs : List T)
      → IsSome (at_token (slots_past free 0 xs) t None) → times t free ≡ 0
  occupied_apart free zero xs some = absurd (cc)
  occupied_apart free (suc i) [] some = absurd (cc)
  occupied_apart free (suc i) (x ∷ xs) some =
      let within = occupied_within free (suc i) (x ∷ xs) some in
      slot_if-taken (times (suc i) free) (get_or (x ∷ xs) i x)
      (rw (slot_at free (suc i) i (x ∷ xs) x (omega arith) within.1) at some)

  -- its item
  pub occupied_item : (free : List ℕ) (t i : ℕ) (xs : List T) (d : T) → i + 1 ≡ t
      → IsSome (at_token (slots_past free 0 xs) t None)
      → at_token (slots_past free 0 xs) t None ≡ Some (get_or xs i d)
  occupied_item free t i xs d at some =
      let within = occupied_within free t xs some in
      slot_at free t i xs d at within.1
      ∙ ap (λ (n : ℕ). slot_if n (get_or xs i d)) (occupied_apart free t xs some)

  -- ---- edits

  -- a stack that has each of these tokens as often
  slots_past-same : (free free' : List ℕ) (passed : ℕ) (xs : List T)
      → ((u : ℕ) → passed < u → times u free' ≡ times u free)
      → slots_past free' passed xs ≡ slots_past free passed xs
  slots_past-same free free' passed [] same = refl
  slots_past-same free free' passed (x ∷ xs) same =
      rw (same (passed + 1) (omega arith))
      (ap (λ (rest : List (Option T)). slot_if (times (passed + 1) free) x ∷ rest)
      (slots_past-same free free' (passed + 1) xs (λ u past. same u (omega arith))))

  -- an item that is written, where the stack changes at its token alone
  slots_past-set : (free free' : List ℕ) (passed t i : ℕ) (xs : List T) (y : T)
      → passed + i + 1 ≡ t → ((u : ℕ) → u ≢ t → times u free' ≡ times u free)
      → slots_past free' passed (set xs i y)
      ≡ set (slots_past free passed xs) i (slot_if (times t free') y)
  slots_past-set free free' passed t i [] y at same = refl
  slots_past-set free free' passed t zero (x ∷ xs) y at same =
      let here : passed + 1 ≡ t = omega arith in
      rw here (ap (λ (rest : List (Option T)). slot_if (times t free') y ∷ rest)
      (slots_past-same free free' t xs (λ u past. same u (λ e. omega (arith, e)))))
  slots_past-set free free' passed t (suc i) (x ∷ xs) y at same =
      rw (same (passed + 1) (λ e. omega (arith, e)))
      (ap (λ (rest : List (Option T)). slot_if (times (passed + 1) free) x ∷ rest)
      (slots_past-set free free' (passed + 1) t i xs y (omega arith) same))

  slots-written : (free free' : List ℕ) (t i : ℕ) (xs : List T) (y : T) → i + 1 ≡ t
      → ((u : ℕ) → u ≢ t → times u free' ≡ times u free)
      → slots_past free' 0 (set xs i y)
      ≡ with_token (slots_past free 0 xs) t (slot_if (times t free') y)
  slots-written free free' t i xs y at same =
      slots_past-set free free' 0 t i xs y (omega arith) same
      ∙ sym (with_token-suc (slots_past free 0 xs) t i (slot_if (times t free') y) at)

  -- one item more
  slots_past-push : (free : List ℕ) (passed : ℕ) (xs : List T) (y : T)
      → slots_past free passed (xs ++ y ∷ [])
      ≡ slots_past free passed xs ++ slot_if (times (passed + length xs + 1) free) y ∷ []
  slots_past-push free passed [] y =
      let e : passed + 1 ≡ passed + 0 + 1 = omega arith in
      ap (λ (t : ℕ). slot_if (times t free) y ∷ []) e
  slots_past-push free passed (x ∷ xs) y =
      let e : passed + 1 + length xs + 1 ≡ passed + length (x ∷ xs) + 1 = omega arith in
      ap (λ (rest : List (Option T)). slot_if (times (passed + 1) free) x ∷ rest)
      (slots_past-push free (passed + 1) xs y
      ∙ ap (λ (t : ℕ). slots_past free (passed + 1) xs ++ slot_if (times t free) y ∷ []) e)

  -- ---- copies

  -- one copy more
  pub copied-push : (is_copy : T → T → Type 0) (free : List ℕ) (xs ys : List T) (i t : ℕ)
      (x y : T) → i < length xs → length ys ≡ i → i + 1 ≡ t → x ≡ get_or xs i x
      → AllZip (IsSlotCopy is_copy) (slots_past free 0 (take i xs)) (slots_past free 0 ys)
      → IsSlotCopy is_copy (slot_if (times t free) x) (slot_if (times t free) y)
      → AllZip (IsSlotCopy is_copy) (slots_past free 0 (take (i + 1) xs))
      (slots_past free 0 (ys ++ y ∷ []))
  copied-push is_copy free xs ys i t x y below long at is copied copy =
      let front : slots_past free 0 (take (i + 1) xs)
      ≡ slots_past free 0 (take i xs) ++ slot_if (times t free) x ∷ [] =
      ap (slots_past free 0) (take_more xs i x below ∙ ap (λ (z : T). take i xs ++ z ∷ []) (sym is))
      ∙ slots_past-push free 0 (take i xs) x
      ∙ ap (λ (u : ℕ). slots_past free 0 (take i xs) ++ slot_if (times u free) x ∷ [])
      (omega (arith, length-take-le i xs (omega arith))) in
      let back : slots_past free 0 (ys ++ y ∷ [])
      ≡ slots_past free 0 ys ++ slot_if (times t free) y ∷ [] =
      slots_past-push free 0 ys y
      ∙ ap (λ (u : ℕ). slots_past free 0 ys ++ slot_if (times u free) y ∷ []) (omega arith) in
      rw (front, back) (AllZip-push (IsSlotCopy is_copy) (slots_past free 0 (take i xs))
      (slots_past free 0 ys) (slot_if (times t free) x) (slot_if (times t free) y) copied copy)

  -- ---- how many

  count-slots_past : (free : List ℕ) (passed : ℕ) (xs : List T) → ((t : ℕ) → times t free ≤ 1)
      → count_by is_some (slots_past free passed xs) + tally free passed (length xs) ≡ length xs
  count-slots_past free passed [] once = omega arith
  count-slots_past free passed (x ∷ xs) once =
      omega (
        arith,
        sum_by-cons (λ (slot : Option T). cond (is_some slot) 1 0)
            (slot_if (times (passed + 1) free) x) (slots_past free (passed + 1) xs),
        one (times (passed + 1) free) (once (passed + 1)),
        count-slots_past free (passed + 1) xs once,
      )
    where
      one : (n : ℕ) → n ≤ 1 → cond (is_some (slot_if n x)) 1 0 + n ≡ 1
      one zero few = omega arith
      one (suc n) few = omega arith

  -- the slots are those with an item and those of the free tokens
  pub slots-counted : (free : List ℕ) (xs : List T) → ((t : ℕ) → times t free ≤ 1)
      → ((t : ℕ) → 0 < times t free → (0 < t) × (t ≤ length xs))
      → count_by is_some (slots_past free 0 xs) + length free ≡ length xs
  slots-counted free xs once within =
      omega (arith, count-slots_past free 0 xs once, tally-all free (length xs) within)

  -- the slot of a token is empty exactly where that is in the stack
  slot-vacant : (free : List ℕ) (t : ℕ) (xs : List T) → 0 < t → t ≤ length xs
      → 0 < times t free → at_token (slots_past free 0 xs) t None ≡ None
  slot-vacant free zero xs positive within some = refl
  slot-vacant free (suc i) [] positive within some = absurd (omega arith)
  slot-vacant free (suc i) (x ∷ xs) positive within some =
      slot_at free (suc i) i (x ∷ xs) x (omega arith) within
      ∙ slot_if-vacant (times (suc i) free) (get_or (x ∷ xs) i x) some

  slot-empty : (free : List ℕ) (t : ℕ) (xs : List T) → 0 < t → t ≤ length xs
      → at_token (slots_past free 0 xs) t None ≡ None → 0 < times t free
  slot-empty free zero xs positive within none = absurd (omega arith)
  slot-empty free (suc i) [] positive within none = absurd (omega arith)
  slot-empty free (suc i) (x ∷ xs) positive within none =
      slot_if-empty (times (suc i) free) (get_or (x ∷ xs) i x)
      (sym (slot_at free (suc i) i (x ∷ xs) x (omega arith) within) ∙ none)

-- ---- a push to the stack, and a pop

-- what stood somewhere stands there after a push
get_or-kept : (xs ys : List ℕ) (i t : ℕ) → get_or xs i 0 ≡ t → 0 < t → get_or (xs ++ ys) i 0 ≡ t
get_or-kept xs ys i t at positive =
    elim (cases_lt i (length xs)) [
      | inl below ↦ get_or_append_left xs ys 0 i below ∙ at
      | inr above ↦ absurd (omega (arith, at, get_or_past xs i 0 above))
    ]

-- and after a pop of another
get_or-popped : (xs : List ℕ) (i t last : ℕ) → get_or (xs ++ last ∷ []) i 0 ≡ t → 0 < t → t ≢ last
    → get_or xs i 0 ≡ t
get_or-popped xs i t last at positive differs =
    elim (cases_lt i (length xs)) [
      | inl below ↦ sym (get_or_append_left xs (last ∷ []) 0 i below) ∙ at
      | inr above ↦ absurd (by_place (cases_eq i (length xs)) above)
    ]
  where
    by_place : (i ≡ length xs) ⊎ (i ≢ length xs) → length xs ≤ i → ⊥
    by_place (inl same) above = differs (sym at ∙ get_or_push xs last 0 i (sym same))
    by_place (inr other) above =
        let past = get_or_past (xs ++ last ∷ []) i 0 (omega (arith, other, length_push xs last)) in
        omega (arith, at, past)

times-popped : (stack free : List ℕ) (t u : ℕ) → stack ≡ free ++ t ∷ []
    → times u free ≤ times u stack
times-popped stack free t u popped =
    omega (arith, ap (times u) popped, times-append u free (t ∷ []))

-- the token that was popped stood in the stack
pub popped_here : (stack free : List ℕ) (t : ℕ) → stack ≡ free ++ t ∷ [] → 0 < times t stack
popped_here stack free t popped = omega (arith, ap (times t) popped, times-push_same t free)

-- a token that stood once in the stack is gone from it
popped_apart : (stack free : List ℕ) (t : ℕ) → stack ≡ free ++ t ∷ []
    → ((u : ℕ) → times u stack ≤ 1) → times t free ≡ 0
popped_apart stack free t popped once =
    omega (arith, ap (times t) popped, times-push_same t free, once t)

-- the last of the stack is the first of the free tokens
pub first_or-last : (stack free : List ℕ) (t other : ℕ) → stack ≡ free ++ t ∷ []
    → first_or other (reverse stack) ≡ t
first_or-last stack free t other popped =
    ap (first_or other) (ap reverse popped ∙ reverse-append free (t ∷ []))

pub no_tokens : (xs : List ℕ) → length xs ≡ 0 → xs ≡ []
no_tokens [] none = refl
no_tokens (x ∷ xs) none = absurd (omega arith)

-- what is wanted in new slots has room where what is asked for has
pub wanted_room : (additional free len wanted room : ℕ)
    → wanted ≡ min (additional - min additional free) (4294967294 - len)
    → min additional (free + (4294967294 - len)) ≤ free + room → wanted ≤ room
wanted_room additional free len wanted room is enough = omega arith

-- the lesser of two numbers is bounded as both are
least_at_most : (a b a' b' bound : ℕ) → a' ≤ max a bound → b' ≤ max b bound
    → min a' b' ≤ max (min a b) bound
least_at_most a b a' b' bound first second = omega arith

-- and so are the slots that there is memory for
slots_at_most : (len x x' most bound : ℕ) → x' ≤ max x bound
    → len + (min x' most - len) ≤ max (len + (min x most - len)) bound
slots_at_most len x x' most bound more = omega arith

-- room for what is wanted is at most twice that
pub room_at_most : (len long free back additional wanted a b a' b' : ℕ) → long ≡ len
    → back ≡ free → free ≤ len → wanted ≤ additional - free
    → a' ≤ max a (2 * (len + (len + wanted - len)) + 4)
    → b' ≤ max b (2 * (free + (len + wanted - free)) + 4)
    → long + room_of a' b' len
    ≤ max (long + room_of a b len) (2 * (long + (additional - back)) + 4)
room_at_most len long free back additional wanted a b a' b' is too few less first second =
    let bound = 2 * (len + (additional - free)) + 4 in
    rw (is, too) (slots_at_most len (min a b) (min a' b') 4294967294 bound
    (least_at_most a b a' b' bound (omega arith) (omega arith)))

module _ {T : Type 0} (is_blank : T → Type 0) (note_of : T → ℕ) where
  -- ---- notes

  AreNoted-at : (free : List ℕ) (passed t i : ℕ) (xs : List T) (d : T) → passed + i + 1 ≡ t
      → i < length xs → AreNoted is_blank note_of free passed xs
      → IsNoted is_blank note_of free t (get_or xs i d)
  AreNoted-at free passed t i [] d at below noted = absurd (omega arith)
  AreNoted-at free passed t zero (x ∷ xs) d at below noted =
      let here : passed + 1 ≡ t = omega arith in
      subst (λ (u : ℕ). IsNoted is_blank note_of free u x) here noted.0
  AreNoted-at free passed t (suc i) (x ∷ xs) d at below noted =
      AreNoted-at free (passed + 1) t i xs d (omega arith) (omega arith) noted.1

  -- the slot of a token
  pub noted_at : (free : List ℕ) (t i : ℕ) (xs : List T) (d : T) → i + 1 ≡ t → t ≤ length xs
      → AreNoted is_blank note_of free 0 xs → IsNoted is_blank note_of free t (get_or xs i d)
  noted_at free t i xs d at within noted =
      AreNoted-at free 0 t i xs d (omega arith) (omega arith) noted

  AreNoted-same : (free free' : List ℕ) (passed : ℕ) (xs : List T)
      → ((u : ℕ) (x : T) → passed < u → IsNoted is_blank note_of free u x
      → IsNoted is_blank note_of free' u x)
      → AreNoted is_blank note_of free passed xs → AreNoted is_blank note_of free' passed xs
  AreNoted-same free free' passed [] keeps noted = tt
  AreNoted-same free free' passed (x ∷ xs) keeps noted = (
    keeps (passed + 1) x (omega arith) noted.0,
    AreNoted-same free free' (passed + 1) xs (λ u y past. keeps u y (omega arith)) noted.1,
  )

  -- an item that is written, where the notes of the others stay right
  AreNoted-set : (free free' : List ℕ) (passed t i : ℕ) (xs : List T) (y : T)
      → passed + i + 1 ≡ t
      → ((u : ℕ) (x : T) → u ≢ t → passed < u → IsNoted is_blank note_of free u x
      → IsNoted is_blank note_of free' u x)
      → IsNoted is_blank note_of free' t y
      → AreNoted is_blank note_of free passed xs
      → AreNoted is_blank note_of free' passed (set xs i y)
  AreNoted-set free free' passed t i [] y at keeps here noted = tt
  AreNoted-set free free' passed t zero (x ∷ xs) y at keeps here noted =
      let e : t ≡ passed + 1 = omega arith in (
        subst (λ (u : ℕ). IsNoted is_blank note_of free' u y) e here,
        AreNoted-same free free' (passed + 1) xs
            (λ u z past. keeps u z (λ same. omega (arith, same)) (omega arith)) noted.1,
      )
  AreNoted-set free free' passed t (suc i) (x ∷ xs) y at keeps here noted = (
    keeps (passed + 1) x (λ same. omega (arith, same)) (omega arith) noted.0,
    AreNoted-set free free' (passed + 1) t i xs y (omega arith)
        (λ u z differs past. keeps u z differs (omega arith)) here noted.1,
  )

  pub AreNoted-push : (free : List ℕ) (passed : ℕ) (xs : List T) (y : T)
      → AreNoted is_blank note_of free passed xs
      → IsNoted is_blank note_of free (passed + length xs + 1) y
      → AreNoted is_blank note_of free passed (xs ++ y ∷ [])
  AreNoted-push free passed [] y noted last =
      let e : passed + 0 + 1 ≡ passed + 1 = omega arith in
      (subst (λ (u : ℕ). IsNoted is_blank note_of free u y) e last, tt)
  AreNoted-push free passed (x ∷ xs) y noted last =
      let e : passed + length (x ∷ xs) + 1 ≡ passed + 1 + length xs + 1 = omega arith in (
        noted.0,
        AreNoted-push free (passed + 1) xs y noted.1
            (subst (λ (u : ℕ). IsNoted is_blank note_of free u y) e last),
      )

  -- ---- the edits, as a whole

  -- an item in the place of another
  pub IsSound-written : (xs : List T) (free : List ℕ) (for_free t i : ℕ) (y : T) → i + 1 ≡ t
      → times t free ≡ 0 → IsSound is_blank note_of xs free for_free
      → IsSound is_blank note_of (set xs i y) free for_free
  IsSound-written xs free for_free t i y at apart s =
      let long = length-set xs i y in
      record {
        few = omega (arith, s.few);
        room = omega (arith, s.room);
        once = s.once;
        within = λ u some. let here = s.within u some in (here.0, omega (arith, here.1));
        noted = AreNoted-set free free 0 t i xs y (omega arith) (λ u x differs past kept. kept)
            (λ some. absurd (omega arith)) s.noted;
      }

  pub view-written : (xs : List T) (free : List ℕ) (room t i : ℕ) (y : T) → i + 1 ≡ t
      → times t free ≡ 0
      → view_of (set xs i y) free room ≡ with_item (view_of xs free room) t y
  view-written xs free room t i y at apart =
      let slots : slots_past free 0 (set xs i y) ≡ with_token (slots_past free 0 xs) t (Some y) =
      slots-written free free t i xs y at (λ u differs. refl)
      ∙ ap (λ (n : ℕ). with_token (slots_past free 0 xs) t (slot_if n y)) apart in
      λ j. record { slots = slots j; free = reverse free; room = room }

  -- a blank in the place of an item, whose token comes on the stack
  pub IsSound-freed : (xs : List T) (free : List ℕ) (for_free t i : ℕ) (y : T) → i + 1 ≡ t
      → t ≤ length xs → times t free ≡ 0 → is_blank y → note_of y ≡ length free
      → IsSound is_blank note_of xs free for_free
      → IsSound is_blank note_of (set xs i y) (free ++ t ∷ []) for_free
  IsSound-freed xs free for_free t i y at within apart blank note s =
      let long = length-set xs i y in
      record {
        few = omega (arith, s.few);
        room = omega (arith, s.room);
        once = once;
        within = inside;
        noted = AreNoted-set free (free ++ t ∷ []) 0 t i xs y (omega arith) keeps
            (λ some. (blank, get_or_push free t 0 (note_of y) (sym note))) s.noted;
      }
    where
      once : (u : ℕ) → times u (free ++ t ∷ []) ≤ 1
      once u =
          elim (cases_eq t u) [
            | inl same ↦ subst (λ (v : ℕ). times v (free ++ t ∷ []) ≤ 1) same
                (omega (arith, times-push_same t free))
            | inr differs ↦ omega (arith, times-push_other u t free differs, s.once u)
          ]

      inside : (u : ℕ) → 0 < times u (free ++ t ∷ [])
          → (0 < u) × (u ≤ length (set xs i y))
      inside u some =
          elim (cases_eq t u) [
            | inl same ↦ (omega arith, omega (arith, length-set xs i y))
            | inr differs ↦
                let here = s.within u (omega (arith, times-push_other u t free differs)) in
                (here.0, omega (arith, here.1, length-set xs i y))
          ]

      keeps : (u : ℕ) (x : T) → u ≢ t → 0 < u → IsNoted is_blank note_of free u x
          → IsNoted is_blank note_of (free ++ t ∷ []) u x
      keeps u x differs past noted some =
          let old = noted (omega (
            arith,
            times-push_other u t free (λ same. differs (sym same)),
          )) in
          (old.0, get_or-kept free (t ∷ []) (note_of x) u old.1 past)

  pub view-freed : (xs : List T) (free : List ℕ) (room t i : ℕ) (y : T) → i + 1 ≡ t
      → view_of (set xs i y) (free ++ t ∷ []) room ≡ removed (view_of xs free room) t
  view-freed xs free room t i y at =
      let slots : slots_past (free ++ t ∷ []) 0 (set xs i y)
      ≡ with_token (slots_past free 0 xs) t None =
      slots-written free (free ++ t ∷ []) t i xs y at
      (λ u differs. times-push_other u t free (λ same. differs (sym same)))
      ∙ ap (with_token (slots_past free 0 xs) t)
      (slot_if-vacant (times t (free ++ t ∷ [])) y (omega (arith, times-push_same t free))) in
      λ j. record { slots = slots j; free = reverse-append free (t ∷ []) j; room = room }

  -- an item in the place of a blank, whose token goes from the stack
  pub IsSound-reused : (xs : List T) (stack free : List ℕ) (for_free t i : ℕ) (y : T)
      → stack ≡ free ++ t ∷ [] → i + 1 ≡ t → IsSound is_blank note_of xs stack for_free
      → IsSound is_blank note_of (set xs i y) free for_free
  IsSound-reused xs stack free for_free t i y popped at s =
      let long = length-set xs i y in
      let apart = popped_apart stack free t popped s.once in
      record {
        few = omega (arith, s.few);
        room = omega (arith, s.room);
        once = λ u. omega (arith, times-popped stack free t u popped, s.once u);
        within = λ u some.
            let here = s.within u (omega (arith, times-popped stack free t u popped)) in
            (here.0, omega (arith, here.1));
        noted = AreNoted-set stack free 0 t i xs y (omega arith) keeps
            (λ some. absurd (omega arith)) s.noted;
      }
    where
      keeps : (u : ℕ) (x : T) → u ≢ t → 0 < u → IsNoted is_blank note_of stack u x
          → IsNoted is_blank note_of free u x
      keeps u x differs past noted some =
          let old = noted (omega (arith, times-popped stack free t u popped)) in (
            old.0,
            get_or-popped free (note_of x) u t
                (ap (λ (xs : List ℕ). get_or xs (note_of x) 0) (sym popped) ∙ old.1) past differs,
          )

  pub view-reused : (xs : List T) (stack free : List ℕ) (room room' t i : ℕ) (y : T)
      → stack ≡ free ++ t ∷ [] → ((u : ℕ) → times u stack ≤ 1) → i + 1 ≡ t
      → view_of (set xs i y) free room'
      ≡ record (placed (reverse stack) (view_of xs stack room) y) { room = room' }
  view-reused xs stack free room room' t i y popped once at =
      let back : reverse stack ≡ t ∷ reverse free =
      ap reverse popped ∙ reverse-append free (t ∷ []) in
      let slots : slots_past free 0 (set xs i y) ≡ with_token (slots_past stack 0 xs) t (Some y) =
      slots-written stack free t i xs y at
      (λ u differs. sym (ap (times u) popped
      ∙ times-push_other u t free (λ same. differs (sym same))))
      ∙ ap (λ (n : ℕ). with_token (slots_past stack 0 xs) t (slot_if n y))
      (popped_apart stack free t popped once) in
      rw back (λ j. record { slots = slots j; free = reverse free; room = room' })

  -- an item behind the others, where no token is free
  pub IsSound-grown : (xs : List T) (stack free : List ℕ) (for_free : ℕ) (y : T) → stack ≡ []
      → free ≡ [] → length xs < 4294967294 → length xs < for_free
      → IsSound is_blank note_of xs stack for_free
      → IsSound is_blank note_of (xs ++ y ∷ []) free for_free
  IsSound-grown xs stack free for_free y none empty few room s =
      let long = length_push xs y in
      let out = λ (u : ℕ). ap (times u) empty in
      let same : stack ≡ free = none ∙ sym empty in
      record {
        few = omega arith;
        room = omega arith;
        once = λ u. omega (arith, out u);
        within = λ u some. absurd (omega (arith, out u));
        noted = AreNoted-push free 0 xs y
            (subst (λ (ys : List ℕ). AreNoted is_blank note_of ys 0 xs) same s.noted)
            (λ some. absurd (omega (arith, out (0 + length xs + 1))));
      }

  pub view-grown : (xs : List T) (stack free : List ℕ) (room room' : ℕ) (y : T) → stack ≡ []
      → free ≡ [] → view_of (xs ++ y ∷ []) free room'
      ≡ record (placed (reverse stack) (view_of xs stack room) y) { room = room' }
  view-grown xs stack free room room' y none empty =
      rw (none, empty) (λ j. record { slots = slots_past-push [] 0 xs y j; free = []; room = room' })

  -- ---- what always holds

  IsParted-view : (xs : List T) (free : List ℕ) (for_free room : ℕ)
      → length xs + room ≤ 4294967294 → IsSound is_blank note_of xs free for_free
      → IsParted (view_of xs free room)
  IsParted-view xs free for_free room few s =
      let long = length-slots_past free 0 xs in
      record {
        few = omega arith;
        within = λ u some.
            let here = occupied_within free u xs some in (here.0, omega (arith, here.1));
        free_once = λ u. omega (arith, times-reverse u free, s.once u);
        free_within = λ u some.
            let in_stack : 0 < times u free = omega (arith, times-reverse u free) in
            let here = s.within u in_stack in
            (here.0, omega (arith, here.1), slot-vacant free u xs here.0 here.1 in_stack);
        free_all = λ u positive within none.
            omega (
              arith,
              times-reverse u free,
              slot-empty free u xs positive (omega (arith, within, long)) none,
            );
      }

  pub IsParted-stack : (xs : List T) (free : List ℕ) (for_items for_free len : ℕ)
      → len ≡ length xs → IsSound is_blank note_of xs free for_free
      → IsParted (view_of xs free (room_of for_items for_free len))
  IsParted-stack xs free for_items for_free len long s =
      IsParted-view xs free for_free (room_of for_items for_free len) (omega (arith, s.few)) s

  -- memory for more tokens changes nothing
  pub IsSound-roomier : (xs ys : List T) (stack free : List ℕ) (for_stack for_free : ℕ) → ys ≡ xs
      → free ≡ stack → for_stack ≤ for_free → IsSound is_blank note_of xs stack for_stack
      → IsSound is_blank note_of ys free for_free
  IsSound-roomier xs ys stack free for_stack for_free items tokens more s =
      rw (items, tokens) (record {
        few = s.few;
        room = omega (arith, s.room);
        once = s.once;
        within = s.within;
        noted = s.noted;
      })

  -- no more tokens are free than there are slots
  pub free_few : (xs : List T) (free : List ℕ) (for_free : ℕ)
      → IsSound is_blank note_of xs free for_free → length free ≤ length xs
  free_few xs free for_free s = length_once free (length xs) s.once s.within

  -- and fewer where one has an item
  pub free_fewer : (xs : List T) (free : List ℕ) (for_free t : ℕ) → 0 < t → t ≤ length xs
      → times t free ≡ 0 → IsSound is_blank note_of xs free for_free
      → length free < length xs
  free_fewer xs free for_free t positive below apart s =
      let few = length_once (t ∷ free) (length xs) once within in omega arith
    where
      once : (u : ℕ) → times u (t ∷ free) ≤ 1
      once u =
          elim (cases_eq t u) [
            | inl same ↦ subst (λ (v : ℕ). times v (t ∷ free) ≤ 1) same
                (omega (arith, times-here t free))
            | inr differs ↦ omega (arith, times-other u t free differs, s.once u)
          ]

      within : (u : ℕ) → 0 < times u (t ∷ free) → (0 < u) × (u ≤ length xs)
      within u some =
          elim (cases_eq t u) [
            | inl same ↦ (omega arith, omega arith)
            | inr differs ↦ s.within u (omega (arith, times-other u t free differs))
          ]

  -- ---- copies

  pub IsSound-copied : (xs ys : List T) (free copied : List ℕ) (for_free for_copied : ℕ)
      → copied ≡ free → length ys ≡ length xs → length xs ≤ for_copied
      → AreNoted is_blank note_of copied 0 ys → IsSound is_blank note_of xs free for_free
      → IsSound is_blank note_of ys copied for_copied
  IsSound-copied xs ys free copied for_free for_copied same long room noted s =
      let often = λ (u : ℕ). ap (times u) same in
      record {
        few = omega (arith, s.few);
        room = omega arith;
        once = λ u. omega (arith, often u, s.once u);
        within = λ u some.
            let here = s.within u (omega (arith, often u)) in (here.0, omega (arith, here.1));
        noted = noted;
      }

-- what an insert does, told token by token
module _ {T : Type 0} where
  pub PlacesItem-from : (old new : Pool T) (t : ℕ) (item : T) → IsParted old
      → t ≡ next_token old → new ≡ record (placed old.free old item) { room = new.room }
      → PlacesItem old new t item
  PlacesItem-from old new t item parted at done = by_free old.free refl
    where
      by_free : (free : List ℕ) → old.free ≡ free → PlacesItem old new t item
      by_free [] none =
          let here : t ≡ length old.slots + 1 = at ∙ rw none refl in
          let slots : new.slots ≡ old.slots ++ Some item ∷ [] =
          ap (λ (s : Pool T). s.slots) done ∙ rw none refl in
          let long = length_push old.slots (Some item) in
          record {
            vacant = at_token-past old.slots t None (omega arith);
            here = rw (slots, here) (at_token-push_same old.slots (Some item) None);
            others = λ u differs. rw slots (at_token-push_other old.slots u (Some item) None
                (λ same. differs (same ∙ sym here)));
            within = (omega arith, rw slots (omega arith));
          }
      by_free (x ∷ rest) some =
          let here : t ≡ x = at ∙ rw some refl in
          let slots : new.slots ≡ with_token old.slots x (Some item) =
          ap (λ (s : Pool T). s.slots) done ∙ rw some refl in
          let first = parted.free_within x (rw some (omega (arith, times-here x rest))) in
          let long = length-with_token old.slots x (Some item) in
          rw here (record {
            vacant = first.2;
            here = rw slots (at_token-with_same old.slots x (Some item) None first.0 first.1);
            others = λ u differs. rw slots (at_token-with_other old.slots x u
                (Some item) None differs);
            within = (first.0, rw slots (omega (arith, first.1)));
          })
