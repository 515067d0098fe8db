-- What the edits do to a slab, token by token.
use Rattle.std.proofs.Common.{◌≡◌, ◌≢◌, ℕ, ◌+◌, ◌<◌, ◌≤◌, eqb, List, [], ◌∷◌, ◌++◌, length, map, Some, None, refl, sym, ap, subst, ◌∙◌, inl}
use Rattle.std.proofs.Common.{inr, arith, append-nil}
use Rattle.std.proofs.lemmas.Bool.{cases_Bool, eq-eqb}
use Rattle.std.proofs.lemmas.List.{length-map, length_push}
use Rattle.quick_cache_containers.specs.LinkedSlab.{LinkedSlab, at_token, with_token, times, without, joined, IsOccupied, ring_from}
use Rattle.quick_cache_containers.specs.LinkedSlab.{next_token, spare, placed, linked, unlinked, removed, IsParted}
use Rattle.quick_cache_containers.specs.SlabEdits.{LeavesRings, PlacesItem, RemovesItem, UnlinksToken, LinksToken}
use Rattle.quick_cache_containers.proofs.TokenCounts.{times-here, times-append, without_none}
use Rattle.quick_cache_containers.proofs.AtTokens.{length-with_token, at_token-with_same, at_token-with_other, at_token-past, at_token-map}
use Rattle.quick_cache_containers.proofs.AtTokens.{at_token-push_same, at_token-push_other}
use Rattle.quick_cache_containers.proofs.SlotRings.{taken_within}
use Rattle.quick_cache_containers.proofs.PartedRings.{before_head_none}

-- taking out a token that stands once joins what stands before and after it
without-split : (t : ℕ) (before after : List ℕ) → times t (before ++ t ∷ after) ≤ 1
    → without t (before ++ t ∷ after) ≡ before ++ after
without-split t [] after once =
    rw (eq-eqb t t refl) (without_none t after (omega (arith, once, times-here t after)))
without-split t (x ∷ before) after once =
    elim (cases_Bool (eqb x t)) [
      | inl hit ↦
          absurd (omega (
            arith,
            rw hit at once,
            times-append t before
                (t ∷ after),
            times-here t after,
          ))
      | inr miss ↦
          rw miss (ap (λ xs. x ∷ xs) (without-split t before after
          (omega (arith, rw miss at once))))
    ]

joined-other : (t head : ℕ) (xs : List ℕ) → times head xs ≡ 0 → joined t head xs ≡ xs
joined-other t head [] out = refl
joined-other t head (x ∷ xs) out =
    elim (cases_Bool (eqb x head)) [
      | inl hit ↦ absurd (omega (arith, rw hit at out))
      | inr miss ↦
          rw (miss, before_head_none t head xs (omega (arith, rw miss at out)))
          (ap (λ ys. x ∷ ys) (append-nil xs))
    ]

module _ {T : Type 0} where
  LeavesRings-from : (old new : LinkedSlab T) (t : ℕ) → IsParted old
      → ((u : ℕ) → u ≢ t → ring_from new u ≡ without t (ring_from old u)) → LeavesRings old new t
  LeavesRings-from old new t parted left = record {
    kept = λ u differs out. left u differs ∙ without_none t (ring_from old u) out;
    cut = λ u before after differs split.
        let once : times t (before ++ t ∷ after) ≤ 1 =
        subst (λ xs. times t xs ≤ 1) split (parted.once u t) in
        left u differs ∙ ap (without t) split ∙ without-split t before after once;
  }

  pub PlacesItem-from : (old new : LinkedSlab T) (t : ℕ) (item : T) → IsParted old
      → t ≡ next_token old → new ≡ record (placed old.free old item) { room = new.room }
      → PlacesItem old new t item
  PlacesItem-from old new t item parted at done = by_free old.free refl
    where
      by_free : (free : List ℕ) → old.free ≡ free → PlacesItem old new t item
      by_free [] none =
          let here : t ≡ length old.slots + 1 = at ∙ rw none refl in
          let slots : new.slots ≡ old.slots ++ Some item ∷ [] =
          ap (λ (s : LinkedSlab T). s.slots) done ∙ rw none refl in
          let rings : new.rings ≡ old.rings ++ ((length old.slots + 1) ∷ []) ∷ [] =
          ap (λ (s : LinkedSlab T). s.rings) done ∙ rw none refl in
          let free : new.free ≡ [] = ap (λ (s : LinkedSlab T). s.free) done ∙ rw none refl in
          let long = length_push old.slots (Some item) in
          let last : length old.rings + 1 ≡ t = omega (arith, parted.ring_each) in
          record {
            vacant = at_token-past old.slots t None (omega arith);
            here = rw (slots, here) (at_token-push_same old.slots (Some item) None);
            alone = rw (rings, ← here) (subst
                (λ n. at_token (old.rings ++ (t ∷ []) ∷ []) n [] ≡ t ∷ []) last
                (at_token-push_same old.rings (t ∷ []) []));
            items = λ u differs. rw slots (at_token-push_other old.slots u (Some item) None
                (λ same. differs (same ∙ sym here)));
            rings = λ u differs. rw rings (at_token-push_other old.rings u
                ((length old.slots + 1) ∷ []) [] (λ same. differs (same ∙ last)));
            within = (omega arith, rw slots (omega arith));
            slots = rw slots (omega arith);
            free = rw (free, none, slots) (omega arith);
          }
      by_free (x ∷ rest) some =
          let here : t ≡ x = at ∙ rw some refl in
          let slots : new.slots ≡ with_token old.slots x (Some item) =
          ap (λ (s : LinkedSlab T). s.slots) done ∙ rw some refl in
          let rings : new.rings ≡ with_token old.rings x (x ∷ []) =
          ap (λ (s : LinkedSlab T). s.rings) done ∙ rw some refl in
          let free : new.free ≡ rest = ap (λ (s : LinkedSlab T). s.free) done ∙ rw some refl in
          let first = parted.free_within x (rw some (omega (arith, times-here x rest))) in
          let long = length-with_token old.slots x (Some item) in
          rw here (record {
            vacant = first.2;
            here = rw slots (at_token-with_same old.slots x (Some item) None first.0 first.1);
            alone = rw rings (at_token-with_same old.rings x (x ∷ []) [] first.0
                (omega (arith, first.1, parted.ring_each)));
            items = λ u differs. rw slots (at_token-with_other old.slots x u
                (Some item) None differs);
            rings = λ u differs. rw rings (at_token-with_other old.rings x u (x ∷ []) [] differs);
            within = (first.0, rw slots (omega (arith, first.1)));
            slots = rw slots (omega arith);
            free = rw (free, some, slots) (omega arith);
          })

  -- an item that comes takes a free slot, or one of the room
  pub spare-placed : (old new : LinkedSlab T) (item : T)
      → new ≡ record (placed old.free old item) { room = new.room }
      → (old.free ≢ [] → new.room ≡ old.room)
      → (old.free ≡ [] → 0 < old.room → new.room + 1 ≡ old.room)
      → 0 < spare old → spare new + 1 ≡ spare old
  spare-placed old new item done free_taken room_taken some = by_free old.free refl
    where
      by_free : (free : List ℕ) → old.free ≡ free → spare new + 1 ≡ spare old
      by_free [] none =
          let free : new.free ≡ [] = ap (λ (s : LinkedSlab T). s.free) done ∙ rw none refl in
          let left : length new.free ≡ 0 = ap length free in
          let had : length old.free ≡ 0 = ap length none in
          let room = room_taken none (omega arith) in
          omega arith
      by_free (x ∷ rest) some =
          let free : new.free ≡ rest = ap (λ (s : LinkedSlab T). s.free) done ∙ rw some refl in
          let left : length new.free ≡ length rest = ap length free in
          let had : length old.free ≡ length rest + 1 = ap length some ∙ omega arith in
          let room = free_taken (λ (none : old.free ≡ []). let e : x ∷ rest ≡ [] = sym some
          ∙ none in cc) in
          omega arith

  pub RemovesItem-from : (old new : LinkedSlab T) (t : ℕ) → IsParted old → IsOccupied old t
      → new ≡ removed old t → RemovesItem old new t
  RemovesItem-from old new t parted taken done =
      let within = taken_within old.slots t taken in
      let long = length-map old.rings (without t) in
      record {
        vacant = rw done (at_token-with_same old.slots t None None within.0 within.1);
        ringless = rw done (at_token-with_same (map (without t) old.rings) t [] [] within.0
            (omega (arith, within.1, parted.ring_each)));
        items = λ u differs. rw done (at_token-with_other old.slots t u None None differs);
        rings = LeavesRings-from old new t parted
            (λ u differs. rw done (at_token-with_other (map (without t) old.rings) t u [] [] differs
            ∙ at_token-map (without t) old.rings u []));
        slots = rw done (length-with_token old.slots t None);
        free = rw done refl;
        room = rw done refl;
      }

  pub UnlinksToken-from : (old new : LinkedSlab T) (t : ℕ) → IsParted old → IsOccupied old t
      → new ≡ unlinked old t → UnlinksToken old new t
  UnlinksToken-from old new t parted taken done =
      let within = taken_within old.slots t taken in
      let long = length-map old.rings (without t) in
      record {
        alone = rw done (at_token-with_same (map (without t) old.rings) t (t ∷ []) [] within.0
            (omega (arith, within.1, parted.ring_each)));
        rings = LeavesRings-from old new t parted
            (λ u differs. rw done (at_token-with_other (map (without t) old.rings) t u
            (t ∷ []) [] differs ∙ at_token-map (without t) old.rings u []));
        slots = rw done refl;
        free = rw done refl;
        room = rw done refl;
      }

  pub LinksToken-from : (old new : LinkedSlab T) (t head : ℕ) → IsParted old → IsOccupied old t
      → ring_from new head ≡ ring_from old head ++ t ∷ [] → new ≡ linked old t head
      → LinksToken old new t head
  LinksToken-from old new t head parted taken joins done =
      let within = taken_within old.slots t taken in
      let long = length-map old.rings (joined t head) in
      record {
        joins = joins;
        begins = rw done (at_token-with_same (map (joined t head) old.rings) t
            (t ∷ ring_from old head) [] within.0 (omega (arith, within.1, parted.ring_each)));
        kept = λ u differs out. rw done
            (at_token-with_other (map (joined t head) old.rings) t u
            (t ∷ ring_from old head) [] differs ∙ at_token-map (joined t head) old.rings u []
            ∙ joined-other t head (ring_from old u) out);
        slots = rw done refl;
        free = rw done refl;
        room = rw done refl;
      }
