-- The model of a slab, from its slots and links: before and after each edit.
use Rattle.std.proofs.Common.{◌≡◌, ◌≢◌, ◌⊎◌, ◌↔◌, ℕ, zero, suc, ◌+◌, ◌<◌, ◌≤◌, Bool, true, false, cond, eqb, List, [], ◌∷◌, ◌++◌, length}
use Rattle.std.proofs.Common.{map, Option, Some, None, is_some, IfSome, MatchOption, true≢false, refl, sym, ap, subst, ◌∙◌, inl, inr, arith}
use Rattle.std.proofs.lemmas.Bool.{cases_eq, eq-eqb, ne_eqb}
use Rattle.std.proofs.lemmas.List.{set-set, length_push}
use Rattle.std.specs.Int.NonZero.{non_zero_u32_get}
use Rattle.std.specs.declared.num.NonZeroU32.{NonZeroU32 as Token}
use Rattle.quick_cache_containers.specs.LinkedSlab.{at_token, with_token, first_or, times, without, joined, placed, linked, unlinked}
use Rattle.quick_cache_containers.specs.LinkedSlab.{removed, with_item, next_token, IsFull, successor, ring_from, IsNextOf}
use Rattle.quick_cache_containers.specs.Links.{link_of, free_of, is_taken, rings_of, view_of, AreRings, AreLinked, AreFree, IsSound}
use Rattle.quick_cache_containers.specs.Links.{Unlinks, Links}
use Rattle.quick_cache_containers.proofs.TokenCounts.{times-here}
use Rattle.quick_cache_containers.proofs.AllRings.{held-next}
use Rattle.quick_cache_containers.proofs.OneRing.{IsRing-frame}
use Rattle.quick_cache_containers.proofs.AtTokens.{length-with_token, at_token-with_same, at_token-with_other, at_token-push_same}
use Rattle.quick_cache_containers.proofs.SlotRings.{taken_within, rings_of-is, length-rings_of, ring_at-is, at_token-rings_of, successor-is}
use Rattle.quick_cache_containers.proofs.RingEditsOfSlots.{Reuses-written, Grows-written, Vacates-written}
use Rattle.quick_cache_containers.proofs.FreeTokens.{free_of-is, begins_after, AreFree-kept, AreFree-reuse, AreFree-grow, AreFree-vacate}

with_token-with_token : {X : Type 0} (xs : List X) (t : ℕ) (x y : X)
    → with_token (with_token xs t x) t y ≡ with_token xs t y
with_token-with_token xs zero x y = refl
with_token-with_token xs (suc i) x y = set-set xs i x y

-- the next free token, or a new one where the last free one was taken
pub next_after : (link first past first' : ℕ)
    → ((link ≡ first) × (first' ≡ past)) ⊎ ((link ≢ first) × (first' ≡ link))
    → first' ≡ cond (eqb link first) past link
next_after link first past first' (inl last) = last.1 ∙ rw (eq-eqb link first last.0) refl
next_after link first past first' (inr more) = more.1 ∙ rw (ne_eqb link first more.0) refl

pub AreRings-same : (next prev : ℕ → ℕ) (held held' : ℕ → Bool) → ((t : ℕ) → held' t ≡ held t)
    → AreRings next prev held → AreRings next prev held'
AreRings-same next prev held held' same rings = record {
  back = λ t there. rings.back t (sym (same t) ∙ there);
  ring = λ t there.
      let ring = rings.ring t (sym (same t) ∙ there) in (
        ring.0,
        IsRing-frame next next held held' t ring.0 (λ u some. refl)
            (λ u some. same u ∙ ring.1.held u some) ring.1,
      );
}

module _ {T : Type 0} where
  -- ---- what callers read

  pub free_is : (slots : List (Option T)) (nexts prevs : List ℕ) (first : ℕ)
      → (s : IsSound slots nexts prevs first) → free_of nexts first ≡ s.free
  free_is slots nexts prevs first s =
      free_of-is slots nexts first s.free s.linked.next_each s.are_free

  -- what a free token names before itself says nothing
  pub IsSound-prev : (slots : List (Option T)) (nexts prevs : List ℕ) (first a prev : ℕ)
      → is_taken slots a ≡ false → IsSound slots nexts prevs first
      → IsSound slots nexts (with_token prevs a prev) first
  IsSound-prev slots nexts prevs first a prev free s = record {
    few = s.few;
    linked = record {
      next_each = s.linked.next_each;
      prev_each = length-with_token prevs a prev ∙ s.linked.prev_each;
      rings = record {
        back = λ t taken.
            let apart : link_of nexts t ≢ a = λ same. true≢false
            (sym (held-next (link_of nexts) (link_of prevs) (is_taken slots) s.linked.rings t taken)
            ∙ ap (is_taken slots) same ∙ free) in
            at_token-with_other prevs a (link_of nexts t) prev 0 apart ∙ s.linked.rings.back t taken;
        ring = s.linked.rings.ring;
      };
    };
    free = s.free;
    are_free = s.are_free;
  }

  pub next_token-is : (slots : List (Option T)) (nexts prevs : List ℕ) (first room : ℕ)
      → IsSound slots nexts prevs first → first ≡ next_token (view_of slots nexts first room)
  next_token-is slots nexts prevs first room s = s.are_free.begins
      ∙ ap (first_or (length slots + 1)) (sym (free_is slots nexts prevs first s))

  -- the next token is past the end exactly where none is free
  first_past : (slots : List (Option T)) (nexts : List ℕ) (first : ℕ) (free : List ℕ)
      → AreFree slots nexts first free → length slots < first → free ≡ []
  first_past slots nexts first [] are past = refl
  first_past slots nexts first (x ∷ xs) are past =
      let at = (are.within x (omega (arith, times-here x xs))).1 in
      let begins = are.begins in
      absurd (omega arith)

  pub none_free : (slots : List (Option T)) (nexts prevs : List ℕ) (first : ℕ)
      → IsSound slots nexts prevs first → length slots < first
      → (free_of nexts first ≡ []) × (first ≡ length slots + 1)
  none_free slots nexts prevs first s past =
      let none = first_past slots nexts first s.free s.are_free past in (
        free_is slots nexts prevs first s ∙ none,
        s.are_free.begins
            ∙ ap (first_or (length slots + 1)) none,
      )

  pub some_free : (slots : List (Option T)) (nexts prevs : List ℕ) (first : ℕ)
      → IsSound slots nexts prevs first → first ≤ length slots → free_of nexts first ≢ []
  some_free slots nexts prevs first s within none =
      let begins : first ≡ length slots + 1 = s.are_free.begins
      ∙ ap (first_or (length slots + 1)) (sym (free_is slots nexts prevs first s) ∙ none) in
      absurd (omega arith)

  pub first_vacant : (slots : List (Option T)) (nexts prevs : List ℕ) (first : ℕ)
      → IsSound slots nexts prevs first → first ≤ length slots
      → (0 < first) × (is_taken slots first ≡ false)
  first_vacant slots nexts prevs first s within = by_free s.free s.are_free
    where
      by_free : (free : List ℕ) → AreFree slots nexts first free
          → (0 < first) × (is_taken slots first ≡ false)
      by_free [] are = let begins = are.begins in absurd (omega arith)
      by_free (x ∷ xs) are = let at =
          are.within x (omega (arith, times-here x xs)) in rw are.begins (at.0, at.2)

  pub full-is : (slots : List (Option T)) (nexts prevs : List ℕ) (first room : ℕ)
      → IsSound slots nexts prevs first
      → (first ≡ 4294967295) ↔ IsFull (view_of slots nexts first room)
  full-is slots nexts prevs first room s = (to, from)
    where
      to : first ≡ 4294967295 → IsFull (view_of slots nexts first room)
      to last = let few = s.few in let none =
          none_free slots nexts prevs first s (omega arith) in (none.0, omega (arith, none.1))

      from : IsFull (view_of slots nexts first room) → first ≡ 4294967295
      from full =
          let begins : first ≡ length slots + 1 = s.are_free.begins
          ∙ ap (first_or (length slots + 1))
          (sym (free_is slots nexts prevs first s) ∙ full.0) in
          omega (arith, full.1)

  pub successor-view : (slots : List (Option T)) (nexts prevs : List ℕ) (first room t : ℕ)
      → AreLinked slots nexts prevs → is_taken slots t ≡ true
      → successor (view_of slots nexts first room) t ≡ link_of nexts t
  successor-view slots nexts prevs first room t linked taken =
      rw (at_token-rings_of slots nexts t) (successor-is slots nexts prevs t linked taken)

  -- a ring of one leads to itself
  pub alone-to_link : (slots : List (Option T)) (nexts prevs : List ℕ) (first room t : ℕ)
      → AreLinked slots nexts prevs → is_taken slots t ≡ true
      → ring_from (view_of slots nexts first room) t ≡ t ∷ [] → link_of nexts t ≡ t
  alone-to_link slots nexts prevs first room t linked taken alone =
      let ring = linked.rings.ring t taken in
      let same : t ∷ ring.0 ≡ t ∷ [] = sym (ring_at-is slots nexts t ring.0 ring.1)
      ∙ sym (at_token-rings_of slots nexts t) ∙ alone in
      let none : ring.0 ≡ [] = cc in
      ring.1.leads.0 ∙ ap (first_or t) none

  pub alone-from_link : (slots : List (Option T)) (nexts prevs : List ℕ) (first room t : ℕ)
      → AreLinked slots nexts prevs → is_taken slots t ≡ true → link_of nexts t ≡ t
      → ring_from (view_of slots nexts first room) t ≡ t ∷ []
  alone-from_link slots nexts prevs first room t linked taken own =
      let ring = linked.rings.ring t taken in
      at_token-rings_of slots nexts t ∙ ring_at-is slots nexts t ring.0 ring.1
      ∙ ap (λ xs. t ∷ xs) (by_rest ring.0 (sym ring.1.leads.0 ∙ own) (ring.1.once t))
    where
      by_rest : (xs : List ℕ) → first_or t xs ≡ t → times t (t ∷ xs) ≤ 1 → xs ≡ []
      by_rest [] same once = refl
      by_rest (y ∷ ys) same once = absurd
          (omega (
            arith,
            times-here t (y ∷ ys),
            subst (λ (u : ℕ). 0 < times u (y ∷ ys)) same
                (omega (arith, times-here y ys)),
          ))

  -- ---- unlink and link

  pub IsSound-unlinked : (slots : List (Option T)) (nexts prevs : List ℕ) (first a : ℕ)
      (nexts' prevs' : List ℕ)
      → IsSound slots nexts prevs first → Unlinks slots nexts prevs a nexts' prevs'
      → IsSound slots nexts' prevs' first
  IsSound-unlinked slots nexts prevs first a nexts' prevs' s done =
      record {
        few = s.few;
        linked = done.linked;
        free = s.free;
        are_free = AreFree-kept slots nexts nexts' first s.free done.free_kept s.are_free;
      }

  pub view-unlinked : (slots : List (Option T)) (nexts prevs : List ℕ) (first room a : ℕ)
      (nexts' prevs' : List ℕ)
      → IsSound slots nexts prevs first → Unlinks slots nexts prevs a nexts' prevs'
      → view_of slots nexts' first room ≡ unlinked (view_of slots nexts first room) a
  unfolding IsSound-unlinked
  view-unlinked slots nexts prevs first room a nexts' prevs' s done =
      let free : free_of nexts' first ≡ free_of nexts first =
      free_is slots nexts' prevs' first
      (IsSound-unlinked slots nexts prevs first a nexts' prevs' s done)
      ∙ sym (free_is slots nexts prevs first s) in
      λ i. record { slots = slots; rings = done.rings i; free = free i; room = room }

  pub IsSound-linked : (slots : List (Option T)) (nexts prevs : List ℕ) (first a head : ℕ)
      (nexts' prevs' : List ℕ)
      → IsSound slots nexts prevs first → Links slots nexts prevs a head nexts' prevs'
      → IsSound slots nexts' prevs' first
  IsSound-linked slots nexts prevs first a head nexts' prevs' s done =
      record {
        few = s.few;
        linked = done.linked;
        free = s.free;
        are_free = AreFree-kept slots nexts nexts' first s.free done.free_kept s.are_free;
      }

  pub view-linked : (slots : List (Option T)) (nexts prevs : List ℕ) (first room a head : ℕ)
      (nexts' prevs' : List ℕ)
      → IsSound slots nexts prevs first → Links slots nexts prevs a head nexts' prevs'
      → view_of slots nexts' first room ≡ linked (view_of slots nexts first room) a head
  unfolding IsSound-linked
  view-linked slots nexts prevs first room a head nexts' prevs' s done =
      let free : free_of nexts' first ≡ free_of nexts first =
      free_is slots nexts' prevs' first
      (IsSound-linked slots nexts prevs first a head nexts' prevs' s done)
      ∙ sym (free_is slots nexts prevs first s) in
      let rings : rings_of slots nexts'
      ≡ with_token (map (joined a head) (rings_of slots nexts)) a
      (a ∷ at_token (rings_of slots nexts) head []) =
      done.rings ∙ ap (λ xs. with_token (map (joined a head) (rings_of slots nexts)) a (a ∷ xs))
      (sym (at_token-rings_of slots nexts head)) in
      λ i. record { slots = slots; rings = rings i; free = free i; room = room }

  -- ---- an insert at a free token

  pub record Reused (slots : List (Option T)) (nexts prevs : List ℕ) (first room : ℕ) (item : T)
      (first' : ℕ) : Type 0 where
    pub sound : IsSound (with_token slots first (Some item)) (with_token nexts first first)
        (with_token prevs first first) first'
    pub view : view_of (with_token slots first (Some item))
        (with_token nexts first first) first' room
        ≡ record (placed (free_of nexts first) (view_of slots nexts first room) item)
        { room = room }
    pub holds : at_token (with_token slots first (Some item)) first None ≡ Some item
    pub alone : at_token (rings_of (with_token slots first (Some item))
        (with_token nexts first first)) first [] ≡ first ∷ []

  pub Reused-at : (slots : List (Option T)) (nexts prevs : List ℕ) (first room : ℕ) (item : T)
      (first' : ℕ)
      → IsSound slots nexts prevs first → first ≤ length slots
      → first' ≡ cond (eqb (link_of nexts first) first) (length slots + 1) (link_of nexts first)
      → Reused slots nexts prevs first room item first'
  Reused-at slots nexts prevs first room item first' s within begins = by_free s.free s.are_free
    where
      vacant : (0 < first) × (is_taken slots first ≡ false)
      vacant = first_vacant slots nexts prevs first s within

      by_rest : (rest : List ℕ) → AreFree slots nexts first (first ∷ rest)
          → Reused slots nexts prevs first room item first'
      by_rest rest are =
          let reuses = Reuses-written slots nexts prevs first item s.linked vacant.0 within vacant.1
          in
          let after = begins ∙ begins_after slots nexts first rest are in
          let free = AreFree-reuse slots nexts first rest item first' after are in
          let found : free_of (with_token nexts first first) first' ≡ rest =
          free_of-is (with_token slots first (Some item))
          (with_token nexts first first) first' rest reuses.linked.next_each free in
          let was : free_of nexts first ≡ first ∷ rest =
          free_of-is slots nexts first (first ∷ rest) s.linked.next_each are in
          let same : view_of (with_token slots first (Some item))
          (with_token nexts first first) first' room
          ≡ record (placed (first ∷ rest) (view_of slots nexts first room) item)
          { room = room } =
          λ i. record {
            slots = with_token slots first (Some item);
            rings = reuses.rings i;
            free = found i;
            room = room;
          } in
          record {
            sound = record {
              few = omega (arith, s.few, length-with_token slots first (Some item));
              linked = reuses.linked;
              free = rest;
              are_free = free;
            };
            view = same ∙ ap (λ xs. record (placed xs (view_of slots nexts first room) item)
                { room = room }) (sym was);
            holds = at_token-with_same slots first (Some item) None vacant.0 within;
            alone = ap (λ rs. at_token rs first []) reuses.rings
                ∙ at_token-with_same (rings_of slots nexts) first (first ∷ []) [] vacant.0
                (omega (arith, length-rings_of slots nexts));
          }

      by_free : (free : List ℕ) → AreFree slots nexts first free
          → Reused slots nexts prevs first room item first'
      by_free [] are = let start = are.begins in absurd (omega arith)
      by_free (x ∷ rest) are = by_rest rest
          (subst (λ (u : ℕ). AreFree slots nexts first (u ∷ rest)) (sym are.begins) are)

  -- ---- an insert at a new token

  pub record Grown (slots : List (Option T)) (nexts prevs : List ℕ) (first room room' : ℕ)
      (item : T) (first' : ℕ) : Type 0 where
    pub sound : IsSound (slots ++ Some item ∷ []) (nexts ++ first ∷ []) (prevs ++ first ∷ []) first'
    pub view : view_of (slots ++ Some item ∷ []) (nexts ++ first ∷ []) first' room'
        ≡ record (placed (free_of nexts first) (view_of slots nexts first room) item)
        { room = room' }
    pub holds : at_token (slots ++ Some item ∷ []) first None ≡ Some item
    pub alone : at_token (rings_of (slots ++ Some item ∷ []) (nexts ++ first ∷ [])) first [] ≡ first
        ∷ []

  pub Grown-at : (slots : List (Option T)) (nexts prevs : List ℕ) (first room room' : ℕ) (item : T)
      (first' : ℕ)
      → IsSound slots nexts prevs first → length slots < first → length slots < 4294967294
      → first' ≡ first + 1 → Grown slots nexts prevs first room room' item first'
  Grown-at slots nexts prevs first room room' item first' s past few begins =
      let none = first_past slots nexts first s.free s.are_free past in
      let last = none_free slots nexts prevs first s past in
      let grows = Grows-written slots nexts prevs first item s.linked last.1 in
      let free = AreFree-grow slots nexts first first' item
      (subst (AreFree slots nexts first) none s.are_free) begins in
      let found : free_of (nexts ++ first ∷ []) first' ≡ free_of nexts first =
      free_of-is (slots ++ Some item ∷ [])
      (nexts ++ first ∷ []) first' [] grows.linked.next_each free ∙ sym last.0 in
      let rings : rings_of (slots ++ Some item ∷ []) (nexts ++ first ∷ []) ≡ rings_of slots nexts
      ++ ((length slots + 1) ∷ []) ∷ [] =
      grows.rings ∙ ap (λ n. rings_of slots nexts ++ (n ∷ []) ∷ []) last.1 in
      let same : view_of (slots ++ Some item ∷ []) (nexts ++ first ∷ []) first' room'
      ≡ record (placed [] (view_of slots nexts first room) item) { room = room' } =
      λ i. record { slots = slots ++ Some item ∷ []; rings = rings i; free = found i; room = room' }
      in
      record {
        sound = record {
          few = omega (arith, length_push slots (Some item));
          linked = grows.linked;
          free = [];
          are_free = free;
        };
        view = same ∙ ap (λ xs. record (placed xs (view_of slots nexts first room) item)
            { room = room' }) (sym last.0);
        holds = rw last.1 (at_token-push_same slots (Some item) None);
        alone = ap (λ rs. at_token rs first []) grows.rings ∙ pushed_ring last.1;
      }
    where
      pushed_ring : first ≡ length slots + 1
          → at_token (rings_of slots nexts ++ (first ∷ []) ∷ []) first [] ≡ first ∷ []
      pushed_ring at =
          let place : length (rings_of slots nexts) + 1 ≡ first =
          omega (arith, length-rings_of slots nexts) in
          subst (λ (n : ℕ). at_token (rings_of slots nexts ++ (first ∷ []) ∷ []) n [] ≡ first ∷ [])
          place (at_token-push_same (rings_of slots nexts) (first ∷ []) [])

  -- ---- a removal

  pub record Removes (slots : List (Option T)) (nexts prevs : List ℕ) (first room a : ℕ)
      (nexts' prevs' : List ℕ) (link : ℕ) : Type 0 where
    pub sound : IsSound (with_token slots a None) (with_token nexts' a link) prevs' a
    pub view : view_of (with_token slots a None) (with_token nexts' a link) a room
        ≡ removed (view_of slots nexts first room) a

  -- the link that a slot gets when it is freed
  pub link_is_first : (slots : List (Option T)) (nexts prevs : List ℕ) (first a : ℕ)
      → (s : IsSound slots nexts prevs first)
      → ((first ≤ length slots) → first ≡ first_or a s.free)
      × ((length slots < first) → a ≡ first_or a s.free)
  link_is_first slots nexts prevs first a s = by_free s.free s.are_free
    where
      by_free : (free : List ℕ) → AreFree slots nexts first free
          → ((first ≤ length slots) → first ≡ first_or a free)
          × ((length slots < first) → a ≡ first_or a free)
      by_free [] are = let begins = are.begins in (λ within. absurd (omega arith), λ past. refl)
      by_free (x ∷ xs) are =
          let at = (are.within x (omega (arith, times-here x xs))).1 in
          let begins = are.begins in
          (λ within. are.begins, λ past. absurd (omega arith))

  pub Removes-at : (slots : List (Option T)) (nexts prevs : List ℕ) (first room a : ℕ)
      (nexts' prevs' : List ℕ) (link : ℕ)
      → (s : IsSound slots nexts prevs first) → is_taken slots a ≡ true
      → Unlinks slots nexts prevs a nexts' prevs' → link ≡ first_or a s.free
      → Removes slots nexts prevs first room a nexts' prevs' link
  unfolding IsSound-unlinked
  Removes-at slots nexts prevs first room a nexts' prevs' link s taken done links =
      let mid = IsSound-unlinked slots nexts prevs first a nexts' prevs' s done in
      let vacates = Vacates-written slots nexts' prevs' a link done.linked taken done.alone in
      let free = AreFree-vacate slots nexts' first a link s.free done.linked.next_each taken links
      mid.are_free in
      let found : free_of (with_token nexts' a link) a ≡ a ∷ free_of nexts first =
      free_of-is (with_token slots a None) (with_token nexts' a link) a
      (a ∷ s.free) vacates.linked.next_each free
      ∙ ap (λ xs. a ∷ xs) (sym (free_is slots nexts prevs first s)) in
      let rings : rings_of (with_token slots a None) (with_token nexts' a link)
      ≡ with_token (map (without a) (rings_of slots nexts)) a [] =
      vacates.rings ∙ ap (λ xs. with_token xs a []) done.rings
      ∙ with_token-with_token (map (without a) (rings_of slots nexts)) a (a ∷ []) [] in
      record {
        sound = record {
          few = omega (arith, s.few, length-with_token slots a None);
          linked = vacates.linked;
          free = a ∷ s.free;
          are_free = free;
        };
        view = λ i. record {
          slots = with_token slots a None;
          rings = rings i;
          free = found i;
          room = room;
        };
      }

  -- ---- answers

  pub IsNextOf-is : (slots : List (Option T)) (nexts prevs : List ℕ) (first room t : ℕ)
      (answer : Option Token)
      → AreLinked slots nexts prevs → is_taken slots t ≡ true
      → MatchOption answer (link_of nexts t ≡ t)
      (λ next. (non_zero_u32_get next ≡ link_of nexts t) × (non_zero_u32_get next ≢ t))
      → IsNextOf (view_of slots nexts first room) t answer
  IsNextOf-is slots nexts prevs first room t None linked taken told =
      alone-from_link slots nexts prevs first room t linked taken told
  IsNextOf-is slots nexts prevs first room t (Some next) linked taken told =
      (told.0 ∙ sym (successor-view slots nexts prevs first room t linked taken), told.1)

  pub successor_found : {X : Type 0} (slots : List (Option T)) (nexts prevs : List ℕ)
      (first room t : ℕ) (value : X → T) (answer : Option (X × Token))
      → AreLinked slots nexts prevs
      → IfSome answer (λ found. at_token slots t None ≡ Some (value found.0))
      → IfSome answer (λ found. non_zero_u32_get found.1 ≡ link_of nexts t)
      → IfSome answer (λ found. non_zero_u32_get found.1
      ≡ successor (view_of slots nexts first room) t)
  successor_found slots nexts prevs first room t value None linked item next = tt
  successor_found slots nexts prevs first room t value (Some found) linked item next =
      next ∙ sym (successor-view slots nexts prevs first room t linked (ap is_some item))

  -- ---- the links that the code chooses

  -- a freed slot names the token that was free before it, or itself
  pub Removes-by : (slots : List (Option T)) (nexts prevs : List ℕ) (first room a : ℕ)
      (nexts' prevs' : List ℕ) (link : ℕ)
      → IsSound slots nexts prevs first → is_taken slots a ≡ true
      → Unlinks slots nexts prevs a nexts' prevs'
      → ((first ≤ length slots) × (link ≡ first)) ⊎ ((length slots < first) × (link ≡ a))
      → Removes slots nexts prevs first room a nexts' prevs' link
  Removes-by slots nexts prevs first room a nexts' prevs' link s taken done (inl some) =
      Removes-at slots nexts prevs first room a nexts' prevs' link s taken done
      (some.1 ∙ (link_is_first slots nexts prevs first a s).0 some.0)
  Removes-by slots nexts prevs first room a nexts' prevs' link s taken done (inr none) =
      Removes-at slots nexts prevs first room a nexts' prevs' link s taken done
      (none.1 ∙ (link_is_first slots nexts prevs first a s).1 none.0)

  -- ---- another item at an occupied token

  taken_same : (slots : List (Option T)) (t u : ℕ) (item : T) → is_taken slots t ≡ true
      → is_taken (with_token slots t (Some item)) u ≡ is_taken slots u
  taken_same slots t u item taken =
      elim (cases_eq u t) [
        | inl same ↦ let here = taken_within slots t taken in rw same
            (ap is_some (at_token-with_same slots t (Some item) None here.0 here.1) ∙ sym taken)
        | inr differs ↦ ap is_some (at_token-with_other slots t u (Some item) None differs)
      ]

  pub IsSound-rewritten : (slots : List (Option T)) (nexts prevs : List ℕ) (first t : ℕ) (item : T)
      → is_taken slots t ≡ true → IsSound slots nexts prevs first
      → IsSound (with_token slots t (Some item)) nexts prevs first
  IsSound-rewritten slots nexts prevs first t item taken s =
      let long = length-with_token slots t (Some item) in
      record {
        few = omega (arith, s.few);
        linked = record {
          next_each = s.linked.next_each ∙ sym long;
          prev_each = s.linked.prev_each ∙ sym long;
          rings = AreRings-same (link_of nexts) (link_of prevs) (is_taken slots)
              (is_taken (with_token slots t (Some item)))
              (λ u. taken_same slots t u item taken) s.linked.rings;
        };
        free = s.free;
        are_free = record {
          begins = s.are_free.begins ∙ ap (λ n. first_or (n + 1) s.free) (sym long);
          leads = s.are_free.leads;
          once = s.are_free.once;
          within = λ u some. let at = s.are_free.within u some
              in (at.0, omega (arith, at.1), taken_same slots t u item taken ∙ at.2);
          all = λ u positive within out. s.are_free.all u positive (omega arith)
              (sym (taken_same slots t u item taken) ∙ out);
        };
      }

  pub view-rewritten : (slots : List (Option T)) (nexts : List ℕ) (first room t : ℕ) (item : T)
      → is_taken slots t ≡ true
      → view_of (with_token slots t (Some item)) nexts first room
      ≡ with_item (view_of slots nexts first room) t item
  view-rewritten slots nexts first room t item taken =
      let long = length-with_token slots t (Some item) in
      let rings : rings_of (with_token slots t (Some item)) nexts ≡ rings_of slots nexts =
      rings_of-is (with_token slots t (Some item)) nexts (rings_of slots nexts)
      (length-rings_of slots nexts ∙ sym long)
      (λ u positive. rw (taken_same slots t u item taken, long)
      (sym (at_token-rings_of slots nexts u))) in
      λ i. record {
        slots = with_token slots t (Some item);
        rings = rings i;
        free = free_of nexts first;
        room = room;
      }
