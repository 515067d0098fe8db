-- What an unlink, a link, an insert and a removal do to the slots and their links, seen as rings.
use Rattle.std.proofs.Common.{◌≡◌, ◌≢◌, ℕ, ◌+◌, ◌<◌, ◌≤◌, true, false, true≢false, cond, eqb, List, [], ◌∷◌, ◌++◌, length, map, Option}
use Rattle.std.proofs.Common.{Some, None, is_some, refl, sym, ap, subst, ◌∙◌, inl, inr, arith}
use Rattle.std.proofs.lemmas.Bool.{cases_eq, cases_Bool, eq-eqb, ne_eqb}
use Rattle.std.proofs.lemmas.List.{length-map, length_push}
use Rattle.quick_cache_containers.specs.LinkedSlab.{at_token, with_token, joined, without}
use Rattle.quick_cache_containers.specs.Links.{link_of, is_taken, ring_at, rings_of, AreLinked, Links, Unlinks}
use Rattle.quick_cache_containers.proofs.OneRing.{out_of_ring, IsRing-alone, IsRing-joined, IsRing-of_joined, IsRing-without}
use Rattle.quick_cache_containers.proofs.AllRings.{before, only_itself, IsLinkedIn, AreRings-linked, IsPlaced, IsRing-placed}
use Rattle.quick_cache_containers.proofs.AllRings.{AreRings-placed, IsVacated, IsRing-vacated, AreRings-vacated, held-next, IsUnlinked}
use Rattle.quick_cache_containers.proofs.AllRings.{AreRings-unlinked}
use Rattle.quick_cache_containers.proofs.AtTokens.{length-with_token, at_token-with_same, at_token-with_other, at_token-map}
use Rattle.quick_cache_containers.proofs.AtTokens.{at_token-push_same, at_token-push_other, at_token-past}
use Rattle.quick_cache_containers.proofs.SlotRings.{taken_within, ring_at-is, ring_at-free, length-rings_of, at_token-rings_of, rings_of-is}

module _ {T : Type 0} where
  -- ---- unlink

  Unlinks-from : (slots : List (Option T)) (nexts prevs : List ℕ) (a : ℕ) (nexts' prevs' : List ℕ)
      → AreLinked slots nexts prevs → is_taken slots a ≡ true → length nexts' ≡ length nexts
      → length prevs' ≡ length prevs
      → ((t : ℕ) → is_taken slots t ≡ false → link_of nexts' t ≡ link_of nexts t)
      → IsUnlinked (link_of nexts) (link_of prevs) (link_of nexts') (link_of prevs')
      (is_taken slots) a
      → Unlinks slots nexts prevs a nexts' prevs'
  Unlinks-from slots nexts prevs a nexts' prevs' linked taken next_long prev_long kept links =
      record {
        linked = record {
          next_each = next_long ∙ linked.next_each;
          prev_each = prev_long ∙ linked.prev_each;
          rings = AreRings-unlinked (link_of nexts) (link_of prevs) (link_of nexts') (link_of prevs')
              (is_taken slots) a taken linked.rings links;
        };
        rings = rings_of-is slots nexts' _ long each;
        alone = links.next_own;
        free_kept = kept;
      }
    where
      long : length (with_token (map (without a) (rings_of slots nexts)) a (a ∷ [])) ≡ length slots
      long = length-with_token _ a (a ∷ []) ∙ length-map (rings_of slots nexts) (without a)
          ∙ length-rings_of slots nexts

      each : (t : ℕ) → 0 < t
          → ring_at slots nexts' t
          ≡ at_token (with_token (map (without a) (rings_of slots nexts)) a (a ∷ [])) t []
      each t positive =
          elim (cases_eq t a) [
            | inl same ↦
                let here = taken_within slots a taken in
                rw same (ring_at-is slots nexts' a []
                (IsRing-alone (link_of nexts') (is_taken slots) a links.next_own taken)
                ∙ sym (at_token-with_same (map (without a) (rings_of slots nexts)) a
                (a ∷ []) [] here.0 (omega (
                  arith,
                  here.1,
                  length-map (rings_of slots nexts)
                      (without a),
                  length-rings_of slots nexts,
                ))))
            | inr differs ↦
                let right : at_token (with_token (map (without a) (rings_of slots nexts)) a
                (a ∷ [])) t [] ≡ without a (ring_at slots nexts t) =
                at_token-with_other (map (without a) (rings_of slots nexts)) a t (a ∷ []) [] differs
                ∙ at_token-map (without a) (rings_of slots nexts) t []
                ∙ ap (without a) (at_token-rings_of slots nexts t) in
                elim (cases_Bool (is_taken slots t)) [
                  | inl there ↦
                      let ring = linked.rings.ring t there in
                      let turned = IsRing-without (link_of nexts) (link_of nexts')
                      (is_taken slots) a t ring.0 links.next_others differs ring.1 in
                      ring_at-is slots nexts' t (without a ring.0) turned
                      ∙ sym (right ∙ ap (without a) (ring_at-is slots nexts t ring.0 ring.1)
                      ∙ rw (ne_eqb t a differs) refl)
                  | inr out ↦ ring_at-free slots nexts' t out
                      ∙ sym (right ∙ ap (without a) (ring_at-free slots nexts t out))
                ]
          ]

  -- a ring of one stays as it is
  pub Unlinks-alone : (slots : List (Option T)) (nexts prevs : List ℕ) (a : ℕ)
      → AreLinked slots nexts prevs → is_taken slots a ≡ true → link_of nexts a ≡ a
      → Unlinks slots nexts prevs a nexts prevs
  Unlinks-alone slots nexts prevs a linked taken own =
      Unlinks-from slots nexts prevs a nexts prevs linked taken refl refl (λ t out. refl) (record {
        next_own = own;
        prev_own = own_back;
        next_others = λ t there differs. elim (cases_eq (link_of nexts t) a) [
          | inl same ↦ absurd (differs (sym (linked.rings.back t there) ∙ ap (link_of prevs) same
              ∙ own_back))
          | inr other ↦ rw (ne_eqb (link_of nexts t) a other) refl
        ];
        prev_others = λ t there differs. elim (cases_eq (link_of prevs t) a) [
          | inl same ↦ absurd (differs (sym
              (before (link_of nexts) (link_of prevs) (is_taken slots) linked.rings t there).1
              ∙ ap (link_of nexts) same ∙ own))
          | inr other ↦ rw (ne_eqb (link_of prevs t) a other) refl
        ];
      })
    where
      own_back : link_of prevs a ≡ a
      own_back = ap (link_of prevs) (sym own) ∙ linked.rings.back a taken

  -- both neighbours are joined, and the token is left alone
  pub Unlinks-written : (slots : List (Option T)) (nexts prevs : List ℕ) (a n p : ℕ)
      → n ≡ link_of nexts a → p ≡ link_of prevs a → AreLinked slots nexts prevs
      → is_taken slots a ≡ true → n ≢ a
      → Unlinks slots nexts prevs a (with_token (with_token nexts a a) p n)
      (with_token (with_token prevs a a) n p)
  Unlinks-written slots nexts prevs a n p is_n is_p linked taken more =
      Unlinks-from slots nexts prevs a (with_token (with_token nexts a a) p n)
      (with_token (with_token prevs a a) n p) linked taken
      (length-with_token (with_token nexts a a) p n ∙ length-with_token nexts a a)
      (length-with_token (with_token prevs a a) n p ∙ length-with_token prevs a a) kept
      (record {
        next_own = next_other a (λ same. p_off (sym same))
            ∙ at_token-with_same nexts a a 0 here.0 (omega (arith, here.1, linked.next_each));
        prev_own = prev_other a (λ same. more (sym same))
            ∙ at_token-with_same prevs a a 0 here.0 (omega (arith, here.1, linked.prev_each));
        next_others = nexts_turn;
        prev_others = prevs_turn;
      })
    where
      here : (0 < a) × (a ≤ length slots)
      here = taken_within slots a taken

      before_a : (is_taken slots p ≡ true) × (link_of nexts p ≡ a)
      before_a = rw is_p (before (link_of nexts) (link_of prevs)
          (is_taken slots) linked.rings a taken)

      n_held : is_taken slots n ≡ true
      n_held = rw is_n (held-next (link_of nexts) (link_of prevs)
          (is_taken slots) linked.rings a taken)

      p_off : p ≢ a
      p_off same = more (is_n ∙ ap (link_of nexts) (sym same) ∙ before_a.1)

      next_other : (t : ℕ) → t ≢ p
          → link_of (with_token (with_token nexts a a) p n) t ≡ link_of (with_token nexts a a) t
      next_other t differs = at_token-with_other (with_token nexts a a) p t n 0 differs

      prev_other : (t : ℕ) → t ≢ n
          → link_of (with_token (with_token prevs a a) n p) t ≡ link_of (with_token prevs a a) t
      prev_other t differs = at_token-with_other (with_token prevs a a) n t p 0 differs

      kept : (t : ℕ) → is_taken slots t ≡ false
          → link_of (with_token (with_token nexts a a) p n) t ≡ link_of nexts t
      kept t out =
          next_other t (λ same. true≢false (sym before_a.0 ∙ ap (is_taken slots) (sym same) ∙ out))
          ∙ at_token-with_other nexts a t a 0
          (λ same. true≢false (sym taken ∙ ap (is_taken slots) (sym same) ∙ out))

      nexts_turn : (t : ℕ) → is_taken slots t ≡ true → t ≢ a
          → link_of (with_token (with_token nexts a a) p n) t ≡ cond (eqb (link_of nexts t) a)
          (link_of nexts a) (link_of nexts t)
      nexts_turn t there differs =
          elim (cases_eq t p) [
            | inl same ↦
                let within = taken_within slots p before_a.0 in
                let written = at_token-with_same (with_token nexts a a) p n 0 within.0
                (omega (arith, within.1, length-with_token nexts a a, linked.next_each)) in
                ap (link_of (with_token (with_token nexts a a) p n)) same ∙ written
                ∙ rw (eq-eqb (link_of nexts t) a (ap (link_of nexts) same ∙ before_a.1)) is_n
            | inr other ↦
                let off : link_of nexts t ≢ a =
                λ same. other (sym (linked.rings.back t there) ∙ ap (link_of prevs) same
                ∙ sym is_p) in
                next_other t other ∙ at_token-with_other nexts a t a 0 differs
                ∙ rw (ne_eqb (link_of nexts t) a off) refl
          ]

      prevs_turn : (t : ℕ) → is_taken slots t ≡ true → t ≢ a
          → link_of (with_token (with_token prevs a a) n p) t ≡ cond (eqb (link_of prevs t) a)
          (link_of prevs a) (link_of prevs t)
      prevs_turn t there differs =
          elim (cases_eq t n) [
            | inl same ↦
                let within = taken_within slots n n_held in
                let written = at_token-with_same (with_token prevs a a) n p 0 within.0
                (omega (arith, within.1, length-with_token prevs a a, linked.prev_each)) in
                ap (link_of (with_token (with_token prevs a a) n p)) same ∙ written
                ∙ rw (eq-eqb (link_of prevs t) a
                (ap (link_of prevs) (same ∙ is_n) ∙ linked.rings.back a taken)) is_p
            | inr other ↦
                let off : link_of prevs t ≢ a =
                λ same. other (sym (before (link_of nexts) (link_of prevs)
                (is_taken slots) linked.rings t there).1 ∙ ap (link_of nexts) same ∙ sym is_n)
                in
                prev_other t other ∙ at_token-with_other prevs a t a 0 differs
                ∙ rw (ne_eqb (link_of prevs t) a off) refl
          ]

  -- ---- link

  Links-from : (slots : List (Option T)) (nexts prevs : List ℕ) (a head : ℕ)
      (nexts' prevs' : List ℕ)
      → AreLinked slots nexts prevs → is_taken slots a ≡ true → is_taken slots head ≡ true
      → link_of nexts a ≡ a → head ≢ a → length nexts' ≡ length nexts → length prevs' ≡ length prevs
      → ((t : ℕ) → is_taken slots t ≡ false → link_of nexts' t ≡ link_of nexts t)
      → IsLinkedIn (link_of nexts) (link_of prevs) (link_of nexts') (link_of prevs')
      (is_taken slots) a head
      → Links slots nexts prevs a head nexts' prevs'
  Links-from slots nexts prevs a head nexts' prevs' linked taken there_head own apart next_long
      prev_long kept links = record {
        linked = record {
          next_each = next_long ∙ linked.next_each;
          prev_each = prev_long ∙ linked.prev_each;
          rings = AreRings-linked (link_of nexts) (link_of prevs) (link_of nexts') (link_of prevs')
              (is_taken slots) a head taken there_head own apart linked.rings links;
        };
        rings = rings_of-is slots nexts' _ long each;
        free_kept = kept;
      }
    where
      old_long : length (map (joined a head) (rings_of slots nexts)) ≡ length slots
      old_long = length-map (rings_of slots nexts) (joined a head) ∙ length-rings_of slots nexts

      long : length (with_token (map (joined a head) (rings_of slots nexts)) a
          (a ∷ ring_at slots nexts head)) ≡ length slots
      long = length-with_token _ a (a ∷ ring_at slots nexts head) ∙ old_long

      only : (t : ℕ) → is_taken slots t ≡ true → link_of nexts t ≡ a → t ≡ a
      only = only_itself (link_of nexts) (link_of prevs) (is_taken slots) a linked.rings taken own

      each : (t : ℕ) → 0 < t
          → ring_at slots nexts' t
          ≡ at_token (with_token (map (joined a head) (rings_of slots nexts)) a
          (a ∷ ring_at slots nexts head)) t []
      each t positive =
          elim (cases_eq t a) [
            | inl same ↦
                let here = taken_within slots a taken in
                let ring = linked.rings.ring head there_head in
                let turned = IsRing-of_joined (link_of nexts) (link_of nexts')
                (is_taken slots) a head ring.0 links.next_others links.next_own taken
                (out_of_ring (link_of nexts) (is_taken slots) a head ring.0 ring.1 only apart)
                ring.1 in
                let written = at_token-with_same (map (joined a head) (rings_of slots nexts)) a
                (a ∷ ring_at slots nexts head) [] here.0 (omega (arith, here.1, old_long)) in
                rw same (ring_at-is slots nexts' a (head ∷ ring.0) turned
                ∙ ap (λ xs. a ∷ xs) (sym (ring_at-is slots nexts head ring.0 ring.1))
                ∙ sym written)
            | inr differs ↦
                let right : at_token (with_token (map (joined a head) (rings_of slots nexts)) a
                (a ∷ ring_at slots nexts head)) t [] ≡ joined a head (ring_at slots nexts t) =
                at_token-with_other (map (joined a head) (rings_of slots nexts)) a t
                (a ∷ ring_at slots nexts head) [] differs
                ∙ at_token-map (joined a head) (rings_of slots nexts) t []
                ∙ ap (joined a head) (at_token-rings_of slots nexts t) in
                elim (cases_Bool (is_taken slots t)) [
                  | inl there ↦
                      let ring = linked.rings.ring t there in
                      let turned = IsRing-joined (link_of nexts) (link_of nexts')
                      (is_taken slots) a head t ring.0 links.next_others links.next_own taken
                      (out_of_ring (link_of nexts) (is_taken slots) a t ring.0 ring.1 only
                      differs) ring.1 in
                      ring_at-is slots nexts' t _ turned
                      ∙ sym (right ∙ ap (joined a head)
                      (ring_at-is slots nexts t ring.0 ring.1))
                  | inr out ↦ ring_at-free slots nexts' t out
                      ∙ sym (right ∙ ap (joined a head) (ring_at-free slots nexts t out))
                ]
          ]

  -- the four links that are written
  pub Links-written : (slots : List (Option T)) (nexts prevs : List ℕ) (a head p : ℕ)
      → p ≡ link_of prevs head → AreLinked slots nexts prevs → is_taken slots a ≡ true
      → is_taken slots head ≡ true → link_of nexts a ≡ a → head ≢ a
      → Links slots nexts prevs a head (with_token (with_token nexts p a) a head)
      (with_token (with_token prevs head a) a p)
  Links-written slots nexts prevs a head p is_p linked taken there_head own apart =
      Links-from slots nexts prevs a head (with_token (with_token nexts p a) a head)
      (with_token (with_token prevs head a) a p) linked taken there_head own apart
      (length-with_token (with_token nexts p a) a head ∙ length-with_token nexts p a)
      (length-with_token (with_token prevs head a) a p ∙ length-with_token prevs head a) kept
      (record {
        next_own = at_token-with_same (with_token nexts p a) a head 0 here.0
            (omega (arith, here.1, length-with_token nexts p a, linked.next_each));
        prev_own = at_token-with_same (with_token prevs head a) a p 0 here.0
            (omega (arith, here.1, length-with_token prevs head a, linked.prev_each)) ∙ is_p;
        next_others = nexts_turn;
        prev_others = prevs_turn;
      })
    where
      here : (0 < a) × (a ≤ length slots)
      here = taken_within slots a taken

      before_head_is : (is_taken slots p ≡ true) × (link_of nexts p ≡ head)
      before_head_is = rw is_p (before (link_of nexts) (link_of prevs)
          (is_taken slots) linked.rings head there_head)

      next_other : (t : ℕ) → t ≢ a
          → link_of (with_token (with_token nexts p a) a head) t ≡ link_of (with_token nexts p a) t
      next_other t differs = at_token-with_other (with_token nexts p a) a t head 0 differs

      kept : (t : ℕ) → is_taken slots t ≡ false
          → link_of (with_token (with_token nexts p a) a head) t ≡ link_of nexts t
      kept t out =
          next_other t (λ same. true≢false (sym taken ∙ ap (is_taken slots) (sym same) ∙ out))
          ∙ at_token-with_other nexts p t a 0
          (λ same. true≢false (sym before_head_is.0 ∙ ap (is_taken slots) (sym same) ∙ out))

      nexts_turn : (t : ℕ) → is_taken slots t ≡ true → t ≢ a
          → link_of (with_token (with_token nexts p a) a head) t
          ≡ cond (eqb (link_of nexts t) head) a (link_of nexts t)
      nexts_turn t there differs =
          elim (cases_eq t p) [
            | inl same ↦
                let within = taken_within slots p before_head_is.0 in
                let written = at_token-with_same nexts p a 0 within.0
                (omega (arith, within.1, linked.next_each)) in
                next_other t differs ∙ ap (link_of (with_token nexts p a)) same ∙ written
                ∙ rw (eq-eqb (link_of nexts t) head
                (ap (link_of nexts) same ∙ before_head_is.1)) refl
            | inr other ↦
                let off : link_of nexts t ≢ head =
                λ same. other (sym (linked.rings.back t there) ∙ ap (link_of prevs) same
                ∙ sym is_p) in
                next_other t differs ∙ at_token-with_other nexts p t a 0 other
                ∙ rw (ne_eqb (link_of nexts t) head off) refl
          ]

      prevs_turn : (t : ℕ) → is_taken slots t ≡ true → t ≢ a
          → link_of (with_token (with_token prevs head a) a p) t
          ≡ cond (eqb t head) a (link_of prevs t)
      prevs_turn t there differs =
          elim (cases_eq t head) [
            | inl same ↦
                let within = taken_within slots head there_head in
                let written = at_token-with_same prevs head a 0 within.0
                (omega (arith, within.1, linked.prev_each)) in
                at_token-with_other (with_token prevs head a) a t p 0 differs
                ∙ ap (link_of (with_token prevs head a)) same ∙ written
                ∙ rw (eq-eqb t head same) refl
            | inr other ↦ at_token-with_other (with_token prevs head a) a t p 0 differs
                ∙ at_token-with_other prevs head t a 0 other ∙ rw (ne_eqb t head other) refl
          ]

  -- ---- a new item is a ring of its own

  Placed-links : (slots slots' : List (Option T)) (nexts prevs nexts' prevs' : List ℕ) (a : ℕ)
      → AreLinked slots nexts prevs → length nexts' ≡ length slots' → length prevs' ≡ length slots'
      → IsPlaced (link_of nexts) (link_of prevs) (link_of nexts') (link_of prevs') (is_taken slots)
      (is_taken slots') a
      → AreLinked slots' nexts' prevs'
  Placed-links slots slots' nexts prevs nexts' prevs' a linked next_long prev_long placed = record {
    next_each = next_long;
    prev_each = prev_long;
    rings = AreRings-placed (link_of nexts) (link_of prevs) (link_of nexts') (link_of prevs')
        (is_taken slots) (is_taken slots') a linked.rings placed;
  }

  -- the ring of each token but the new one stays
  placed_ring : (slots slots' : List (Option T)) (nexts prevs nexts' prevs' : List ℕ) (a : ℕ)
      → AreLinked slots nexts prevs
      → IsPlaced (link_of nexts) (link_of prevs) (link_of nexts') (link_of prevs') (is_taken slots)
      (is_taken slots') a
      → (t : ℕ) → t ≢ a → ring_at slots' nexts' t ≡ ring_at slots nexts t
  placed_ring slots slots' nexts prevs nexts' prevs' a linked placed t differs =
      elim (cases_Bool (is_taken slots t)) [
        | inl there ↦
            let ring = linked.rings.ring t there in
            ring_at-is slots' nexts' t ring.0
            (IsRing-placed (link_of nexts) (link_of prevs) (link_of nexts') (link_of prevs')
            (is_taken slots) (is_taken slots') a t ring.0 placed ring.1)
            ∙ sym (ring_at-is slots nexts t ring.0 ring.1)
        | inr out ↦ ring_at-free slots' nexts' t (placed.held_others t differs ∙ out)
            ∙ sym (ring_at-free slots nexts t out)
      ]

  pub record Reuses (slots : List (Option T)) (nexts prevs : List ℕ) (a : ℕ)
      (item : T) : Type 0 where
    pub linked : AreLinked (with_token slots a (Some item)) (with_token nexts a a)
        (with_token prevs a a)
    pub rings : rings_of (with_token slots a (Some item)) (with_token nexts a a)
        ≡ with_token (rings_of slots nexts) a (a ∷ [])

  pub Reuses-written : (slots : List (Option T)) (nexts prevs : List ℕ) (a : ℕ) (item : T)
      → AreLinked slots nexts prevs → 0 < a → a ≤ length slots → is_taken slots a ≡ false
      → Reuses slots nexts prevs a item
  Reuses-written slots nexts prevs a item linked positive within free = record {
    linked = Placed-links slots (with_token slots a (Some item)) nexts prevs (with_token nexts a a)
        (with_token prevs a a) a linked
        (length-with_token nexts a a ∙ linked.next_each
        ∙ sym (length-with_token slots a (Some item)))
        (length-with_token prevs a a ∙ linked.prev_each
        ∙ sym (length-with_token slots a (Some item))) placed;
    rings = rings_of-is (with_token slots a (Some item)) (with_token nexts a a) _
        (length-with_token (rings_of slots nexts) a (a ∷ []) ∙ length-rings_of slots nexts
        ∙ sym (length-with_token slots a (Some item))) each;
  }
    where
      placed : IsPlaced (link_of nexts) (link_of prevs) (link_of (with_token nexts a a))
          (link_of (with_token prevs a a)) (is_taken slots)
          (is_taken (with_token slots a (Some item))) a
      placed = record {
        was_free = free;
        now_held = ap is_some (at_token-with_same slots a (Some item) None positive within);
        next_own = at_token-with_same nexts a a 0 positive (omega (arith, linked.next_each));
        prev_own = at_token-with_same prevs a a 0 positive (omega (arith, linked.prev_each));
        next_others = λ t differs. at_token-with_other nexts a t a 0 differs;
        prev_others = λ t differs. at_token-with_other prevs a t a 0 differs;
        held_others = λ t differs. ap is_some
            (at_token-with_other slots a t (Some item) None differs);
      }

      each : (t : ℕ) → 0 < t
          → ring_at (with_token slots a (Some item))
          (with_token nexts a a) t ≡ at_token (with_token (rings_of slots nexts) a (a ∷ [])) t []
      each t t_positive =
          elim (cases_eq t a) [
            | inl same ↦ rw same (ring_at-is (with_token slots a (Some item))
                (with_token nexts a a) a [] (IsRing-alone (link_of (with_token nexts a a))
                (is_taken (with_token slots a (Some item))) a placed.next_own placed.now_held)
                ∙ sym (at_token-with_same (rings_of slots nexts) a (a ∷ []) [] positive
                (omega (arith, length-rings_of slots nexts))))
            | inr differs ↦ placed_ring slots (with_token slots a (Some item)) nexts prevs
                (with_token nexts a a) (with_token prevs a a) a linked placed t differs
                ∙ sym (at_token-with_other (rings_of slots nexts) a t (a ∷ []) [] differs
                ∙ at_token-rings_of slots nexts t)
          ]

  pub record Grows (slots : List (Option T)) (nexts prevs : List ℕ) (a : ℕ)
      (item : T) : Type 0 where
    pub linked : AreLinked (slots ++ Some item ∷ []) (nexts ++ a ∷ []) (prevs ++ a ∷ [])
    pub rings : rings_of (slots ++ Some item ∷ []) (nexts ++ a ∷ []) ≡ rings_of slots nexts
        ++ (a ∷ []) ∷ []

  pub Grows-written : (slots : List (Option T)) (nexts prevs : List ℕ) (a : ℕ) (item : T)
      → AreLinked slots nexts prevs → a ≡ length slots + 1 → Grows slots nexts prevs a item
  Grows-written slots nexts prevs a item linked last = record {
    linked = Placed-links slots (slots ++ Some item ∷ []) nexts prevs (nexts ++ a ∷ [])
        (prevs ++ a ∷ []) a linked (omega
        (arith, length_push nexts a, length_push slots (Some item), linked.next_each))
        (omega (arith, length_push prevs a, length_push slots (Some item), linked.prev_each))
        placed;
    rings = rings_of-is (slots ++ Some item ∷ []) (nexts ++ a ∷ []) _
        (omega (
          arith,
          length_push (rings_of slots nexts)
              (a ∷ []),
          length-rings_of slots nexts,
          length_push slots (Some item),
        )) each;
  }
    where
      same_end : {X : Type 0} (xs : List X) (x d : X) → length xs ≡ length slots
          → at_token (xs ++ x ∷ []) a d ≡ x
      same_end xs x d long = let e : length xs + 1 ≡ a =
          omega arith in subst (λ (u : ℕ). at_token (xs ++ x ∷ []) u d ≡ x) e
          (at_token-push_same xs x d)

      others : {X : Type 0} (xs : List X) (x d : X) → length xs ≡ length slots → (t : ℕ) → t ≢ a
          → at_token (xs ++ x ∷ []) t d ≡ at_token xs t d
      others xs x d long t differs = at_token-push_other xs t x d (λ same. differs (omega arith))

      placed : IsPlaced (link_of nexts) (link_of prevs) (link_of (nexts ++ a ∷ []))
          (link_of (prevs ++ a ∷ [])) (is_taken slots) (is_taken (slots ++ Some item ∷ [])) a
      placed = record {
        was_free = ap is_some (at_token-past slots a None (omega arith));
        now_held = ap is_some (same_end slots (Some item) None refl);
        next_own = same_end nexts a 0 linked.next_each;
        prev_own = same_end prevs a 0 linked.prev_each;
        next_others = λ t differs. others nexts a 0 linked.next_each t differs;
        prev_others = λ t differs. others prevs a 0 linked.prev_each t differs;
        held_others = λ t differs. ap is_some (others slots (Some item) None refl t differs);
      }

      each : (t : ℕ) → 0 < t
          → ring_at (slots ++ Some item ∷ [])
          (nexts ++ a ∷ []) t ≡ at_token (rings_of slots nexts ++ (a ∷ []) ∷ []) t []
      each t t_positive =
          elim (cases_eq t a) [
            | inl same ↦ rw same (ring_at-is (slots ++ Some item ∷ []) (nexts ++ a ∷ []) a []
                (IsRing-alone (link_of (nexts ++ a ∷ []))
                (is_taken (slots ++ Some item ∷ [])) a placed.next_own placed.now_held)
                ∙ sym (same_end (rings_of slots nexts) (a ∷ []) [] (length-rings_of slots nexts)))
            | inr differs ↦ placed_ring slots (slots ++ Some item ∷ []) nexts prevs
                (nexts ++ a ∷ []) (prevs ++ a ∷ []) a linked placed t differs
                ∙ sym (others (rings_of slots nexts) (a ∷ []) []
                (length-rings_of slots nexts) t differs ∙ at_token-rings_of slots nexts t)
          ]

  -- ---- an item that is a ring of its own is taken out

  pub record Vacates (slots : List (Option T)) (nexts prevs : List ℕ) (a link : ℕ) : Type 0 where
    pub linked : AreLinked (with_token slots a None) (with_token nexts a link) prevs
    pub rings : rings_of (with_token slots a None) (with_token nexts a link)
        ≡ with_token (rings_of slots nexts) a []

  pub Vacates-written : (slots : List (Option T)) (nexts prevs : List ℕ) (a link : ℕ)
      → AreLinked slots nexts prevs → is_taken slots a ≡ true → link_of nexts a ≡ a
      → Vacates slots nexts prevs a link
  Vacates-written slots nexts prevs a link linked taken own = record {
    linked = record {
      next_each = length-with_token nexts a link ∙ linked.next_each
          ∙ sym (length-with_token slots a None);
      prev_each = linked.prev_each ∙ sym (length-with_token slots a None);
      rings = AreRings-vacated (link_of nexts) (link_of prevs) (link_of (with_token nexts a link))
          (is_taken slots) (is_taken (with_token slots a None)) a linked.rings left;
    };
    rings = rings_of-is (with_token slots a None) (with_token nexts a link) _
        (length-with_token (rings_of slots nexts) a [] ∙ length-rings_of slots nexts
        ∙ sym (length-with_token slots a None)) each;
  }
    where
      here : (0 < a) × (a ≤ length slots)
      here = taken_within slots a taken

      left : IsVacated (link_of nexts) (link_of (with_token nexts a link)) (is_taken slots)
          (is_taken (with_token slots a None)) a
      left = record {
        was_held = taken;
        now_free = ap is_some (at_token-with_same slots a None None here.0 here.1);
        was_alone = own;
        next_others = λ t differs. at_token-with_other nexts a t link 0 differs;
        held_others = λ t differs. ap is_some (at_token-with_other slots a t None None differs);
      }

      each : (t : ℕ) → 0 < t
          → ring_at (with_token slots a None)
          (with_token nexts a link) t ≡ at_token (with_token (rings_of slots nexts) a []) t []
      each t t_positive =
          elim (cases_eq t a) [
            | inl same ↦ rw same (ring_at-free (with_token slots a None)
                (with_token nexts a link) a left.now_free
                ∙ sym (at_token-with_same (rings_of slots nexts) a [] [] here.0
                (omega (arith, here.1, length-rings_of slots nexts))))
            | inr differs ↦ ring_stays t differs
                ∙ sym (at_token-with_other (rings_of slots nexts) a t [] [] differs
                ∙ at_token-rings_of slots nexts t)
          ]
        where
          ring_stays : (t : ℕ) → t ≢ a
              → ring_at (with_token slots a None)
              (with_token nexts a link) t ≡ ring_at slots nexts t
          ring_stays t differs =
              elim (cases_Bool (is_taken slots t)) [
                | inl there ↦
                    let ring = linked.rings.ring t there in
                    ring_at-is (with_token slots a None) (with_token nexts a link) t ring.0
                    (IsRing-vacated (link_of nexts) (link_of prevs)
                    (link_of (with_token nexts a link)) (is_taken slots)
                    (is_taken (with_token slots a None)) a t ring.0 linked.rings left differs
                    ring.1) ∙ sym (ring_at-is slots nexts t ring.0 ring.1)
                | inr out ↦ ring_at-free (with_token slots a None) (with_token nexts a link) t
                    (left.held_others t differs ∙ out) ∙ sym (ring_at-free slots nexts t out)
              ]
