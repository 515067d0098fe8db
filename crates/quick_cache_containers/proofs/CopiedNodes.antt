-- Copied nodes have the same links, and stand for the same rings and free tokens.
use Rattle.std.proofs.Common.{◌≡◌, ℕ, zero, suc, ◌+◌, List, [], ◌∷◌, length, map, Option, Some, None, is_some, refl, sym, ap, ◌∙◌, arith}
use Rattle.std.specs.List.{AllZip}
use Rattle.quick_cache_containers.specs.LinkedSlab.{AreItemCopies, IsSlotCopy, first_or}
use Rattle.quick_cache_containers.specs.Links.{IsNodeCopy, IsSound, free_of, is_taken, link_of, rings_of, view_of}
use Rattle.quick_cache_containers.specs.Nodes.{item_of, next_link, prev_link}
use Rattle.quick_cache_containers.specs.declared.linked_slab.node.Node.{Node}
use Rattle.quick_cache_containers.proofs.SlabViews.{AreRings-same}
use Rattle.quick_cache_containers.proofs.SlotRings.{at_token-rings_of, length-rings_of, rings_of-is}

module _ {T : Type 0} where
  -- ---- slots that are taken as others are

  -- slots that are taken where these are, under the same links, are as sound
  IsSound-taken : (slots slots' : List (Option T)) (nexts prevs : List ℕ) (first : ℕ)
      → length slots' ≡ length slots → ((t : ℕ) → is_taken slots' t ≡ is_taken slots t)
      → IsSound slots nexts prevs first → IsSound slots' nexts prevs first
  IsSound-taken slots slots' nexts prevs first long taken s = record {
    few = omega (arith, s.few);
    linked = record {
      next_each = s.linked.next_each ∙ sym long;
      prev_each = s.linked.prev_each ∙ sym long;
      rings = AreRings-same (link_of nexts) (link_of prevs) (is_taken slots) (is_taken slots') taken
          s.linked.rings;
    };
    free = s.free;
    are_free = record {
      begins = s.are_free.begins ∙ ap (λ n. first_or (n + 1) s.free) (sym long);
      leads = s.are_free.leads;
      once = s.are_free.once;
      within = λ u some. let at = s.are_free.within u some
          in (at.0, omega (arith, at.1), taken u ∙ at.2);
      all = λ u positive within out. s.are_free.all u positive (omega arith)
          (sym (taken u) ∙ out);
    };
  }

  -- and stand in the same rings
  rings_of-taken : (slots slots' : List (Option T)) (nexts : List ℕ)
      → length slots' ≡ length slots → ((t : ℕ) → is_taken slots' t ≡ is_taken slots t)
      → rings_of slots' nexts ≡ rings_of slots nexts
  rings_of-taken slots slots' nexts long taken =
      rings_of-is slots' nexts (rings_of slots nexts) (length-rings_of slots nexts ∙ sym long)
      (λ u positive. rw (taken u, long) (sym (at_token-rings_of slots nexts u)))

  -- ---- copies

  module _ (is_copy : T → T → Type 0) where
    length-copied : (xs ys : List (Option T)) → AllZip (IsSlotCopy is_copy) xs ys
        → length ys ≡ length xs
    length-copied [] [] copies = refl
    length-copied [] (y ∷ ys) copies = absurd copies
    length-copied (x ∷ xs) [] copies = absurd copies
    length-copied (x ∷ xs) (y ∷ ys) copies = ap suc (length-copied xs ys copies.1)

    is_some-copied : (x y : Option T) → IsSlotCopy is_copy x y → is_some y ≡ is_some x
    is_some-copied None None copy = refl
    is_some-copied None (Some y) copy = absurd copy
    is_some-copied (Some x) None copy = absurd copy
    is_some-copied (Some x) (Some y) copy = refl

    taken-copied : (xs ys : List (Option T)) → AllZip (IsSlotCopy is_copy) xs ys
        → (t : ℕ) → is_taken ys t ≡ is_taken xs t
    taken-copied xs ys copies zero = refl
    taken-copied [] [] copies (suc i) = refl
    taken-copied [] (y ∷ ys) copies (suc i) = absurd copies
    taken-copied (x ∷ xs) [] copies (suc i) = absurd copies
    taken-copied (x ∷ xs) (y ∷ ys) copies (suc zero) = is_some-copied x y copies.0
    taken-copied (x ∷ xs) (y ∷ ys) copies (suc (suc i)) = taken-copied xs ys copies.1 (suc i)

    slots-copied : (xs ys : List (Node T)) → AllZip (IsNodeCopy is_copy) xs ys
        → AllZip (IsSlotCopy is_copy) (map item_of xs) (map item_of ys)
    slots-copied [] [] copies = tt
    slots-copied [] (y ∷ ys) copies = absurd copies
    slots-copied (x ∷ xs) [] copies = absurd copies
    slots-copied (x ∷ xs) (y ∷ ys) copies =
        (copies.0.item, slots-copied xs ys copies.1)

    nexts-copied : (xs ys : List (Node T)) → AllZip (IsNodeCopy is_copy) xs ys
        → map next_link ys ≡ map next_link xs
    nexts-copied [] [] copies = refl
    nexts-copied [] (y ∷ ys) copies = absurd copies
    nexts-copied (x ∷ xs) [] copies = absurd copies
    nexts-copied (x ∷ xs) (y ∷ ys) copies = λ i.
        copies.0.next i ∷ nexts-copied xs ys copies.1 i

    prevs-copied : (xs ys : List (Node T)) → AllZip (IsNodeCopy is_copy) xs ys
        → map prev_link ys ≡ map prev_link xs
    prevs-copied [] [] copies = refl
    prevs-copied [] (y ∷ ys) copies = absurd copies
    prevs-copied (x ∷ xs) [] copies = absurd copies
    prevs-copied (x ∷ xs) (y ∷ ys) copies = λ i.
        copies.0.prev i ∷ prevs-copied xs ys copies.1 i

    module _ (xs ys : List (Node T)) (copies : AllZip (IsNodeCopy is_copy) xs ys)
      where
        -- copied nodes are as sound as the nodes are
        pub IsSound-copied : (first : ℕ)
            → IsSound (map item_of xs) (map next_link xs) (map prev_link xs) first
            → IsSound (map item_of ys) (map next_link ys) (map prev_link ys) first
        IsSound-copied first s =
            let slots = slots-copied xs ys copies in
            rw (nexts-copied xs ys copies, prevs-copied xs ys copies)
            (IsSound-taken (map item_of xs) (map item_of ys) (map next_link xs) (map prev_link xs) first
            (length-copied (map item_of xs) (map item_of ys) slots)
            (taken-copied (map item_of xs) (map item_of ys) slots) s)

        -- they stand for copies of the items, in the same rings
        pub view_of-copied : (first room room' : ℕ)
            → AreItemCopies is_copy (view_of (map item_of xs) (map next_link xs) first room)
            (view_of (map item_of ys) (map next_link ys) first room')
        view_of-copied first room room' =
            let slots = slots-copied xs ys copies in
            let rings : rings_of (map item_of ys) (map next_link ys)
            ≡ rings_of (map item_of xs) (map next_link xs) =
            ap (rings_of (map item_of ys)) (nexts-copied xs ys copies)
            ∙ rings_of-taken (map item_of xs) (map item_of ys) (map next_link xs)
            (length-copied (map item_of xs) (map item_of ys) slots)
            (taken-copied (map item_of xs) (map item_of ys) slots) in
            record {
              slots = slots;
              same = λ i. record {
                slots = map item_of ys;
                rings = rings i;
                free = free_of (nexts-copied xs ys copies i) first;
                room = room';
              };
            }
