-- What always holds of a slab: its rings part the occupied tokens.
use Rattle.std.proofs.Common.{◌≡◌, ◌≢◌, ◌↔◌, ℕ, ◌+◌, ◌<◌, ◌≤◌, Bool, true, false, eqb, List, [], ◌∷◌, ◌++◌, length, map, Option, Some, None}
use Rattle.std.proofs.Common.{is_some, IfSome, true≢false, refl, sym, ap, subst, ◌∙◌, inl, inr, arith, append-nil}
use Rattle.std.proofs.lemmas.Bool.{cases_Bool, eq-eqb}
use Rattle.std.specs.Int.NonZero.{non_zero_u32_get}
use Rattle.std.specs.declared.num.NonZeroU32.{NonZeroU32 as Token}
use Rattle.quick_cache_containers.specs.LinkedSlab.{at_token, first_or, times, before_head, joined, without, ring_from, linked, unlinked}
use Rattle.quick_cache_containers.specs.LinkedSlab.{IsParted}
use Rattle.quick_cache_containers.specs.Links.{Leads, IsRing, link_of, is_taken, ring_at, rings_of, view_of, room_of, AreLinked, IsSound}
use Rattle.quick_cache_containers.proofs.TokenCounts.{times-here, times-append}
use Rattle.quick_cache_containers.proofs.AtTokens.{at_token-with_same, at_token-with_other, at_token-map}
use Rattle.quick_cache_containers.proofs.SlotRings.{taken_within, ring_at-is, ring_at-free, length-rings_of, at_token-rings_of}
use Rattle.quick_cache_containers.proofs.SlabViews.{free_is, alone-to_link, alone-from_link}
use Rattle.std.proofs.lemmas.List.{length-map}

Leads-left : (next : ℕ → ℕ) (xs ys : List ℕ) (e : ℕ) → Leads next (xs ++ ys) e
    → Leads next xs (first_or e ys)
Leads-left next [] ys e leads = tt
Leads-left next (x ∷ []) ys e leads = (leads.0, tt)
Leads-left next (x ∷ y ∷ zs) ys e leads = (leads.0, Leads-left next (y ∷ zs) ys e leads.1)

Leads-right : (next : ℕ → ℕ) (xs ys : List ℕ) (e : ℕ) → Leads next (xs ++ ys) e → Leads next ys e
Leads-right next [] ys e leads = leads
Leads-right next (x ∷ xs) ys e leads = Leads-right next xs ys e leads.1

Leads-both : (next : ℕ → ℕ) (xs ys : List ℕ) (e : ℕ) → Leads next xs (first_or e ys)
    → Leads next ys e → Leads next (xs ++ ys) e
Leads-both next [] ys e left right = right
Leads-both next (x ∷ []) ys e left right = (left.0, right)
Leads-both next (x ∷ y ∷ zs) ys e left right = (left.0, Leads-both next (y ∷ zs) ys e left.1 right)

-- the same ring, begun at another of its tokens
pub IsRing-turned : (next : ℕ → ℕ) (held : ℕ → Bool) (t u : ℕ) (rest before after : List ℕ)
    → t ∷ rest ≡ before ++ u ∷ after → IsRing next held t rest
    → IsRing next held u (after ++ before)
IsRing-turned next held t u rest [] after split ring =
    let same : t ≡ u = cc in
    let others : rest ≡ after = cc in
    rw (append-nil after, ← same, ← others) ring
IsRing-turned next held t u rest (b ∷ bs) after split ring =
    let same : t ≡ b = cc in
    let leads : Leads next ((b ∷ bs) ++ u ∷ after) b =
    subst (λ (xs : List ℕ). Leads next xs b) split
    (subst (λ (v : ℕ). Leads next (t ∷ rest) v) same ring.leads) in
    let counts : (v : ℕ) → times v ((u ∷ after) ++ b ∷ bs) ≡ times v (t ∷ rest) =
    λ v. omega (
      arith,
      times-append v (u ∷ after) (b ∷ bs),
      times-append v (b ∷ bs)
          (u ∷ after),
      ap (times v) split,
    ) in
    record {
      leads = Leads-both next (u ∷ after) (b ∷ bs) u (Leads-right next (b ∷ bs) (u ∷ after) b leads)
          (Leads-left next (b ∷ bs) (u ∷ after) b leads);
      once = λ v. omega (arith, counts v, ring.once v);
      held = λ v some. ring.held v (omega (arith, counts v));
    }

pub before_head_none : (a head : ℕ) (xs : List ℕ) → times head xs ≡ 0 → before_head a head xs ≡ xs
before_head_none a head [] none = refl
before_head_none a head (x ∷ xs) none =
    elim (cases_Bool (eqb x head)) [
      | inl hit ↦ absurd (omega (arith, rw hit at none))
      | inr miss ↦ rw miss (ap (λ ys. x ∷ ys)
          (before_head_none a head xs (omega (arith, rw miss at none))))
    ]

module _ {T : Type 0} where
  pub IsParted-of : (slots : List (Option T)) (nexts prevs : List ℕ) (first room : ℕ)
      → length slots + room ≤ 4294967294 → IsSound slots nexts prevs first
      → IsParted (view_of slots nexts first room)
  IsParted-of slots nexts prevs first room few s = record {
    few = few;
    ring_each = length-rings_of slots nexts;
    within = λ t taken. taken_within slots t taken;
    ringless = λ t none. at_token-rings_of slots nexts t
        ∙ ring_at-free slots nexts t (ap is_some none);
    free_all = λ t positive within none. rw (free_is slots nexts prevs first s)
        (s.are_free.all t positive within (ap is_some none));
    begins = λ t taken. let ring =
        s.linked.rings.ring t taken in (
          ring.0,
          at_token-rings_of slots nexts t
              ∙ ring_at-is slots nexts t ring.0 ring.1,
        );
    once = λ t u. rw (at_token-rings_of slots nexts t) (once t u);
    held = λ t u some. held t u (rw (at_token-rings_of slots nexts t) at some);
    turned = λ t u before after split. turned t u before after
        (sym (at_token-rings_of slots nexts t) ∙ split);
    free_once = λ t. rw (free_is slots nexts prevs first s) (s.are_free.once t);
    free_within = λ t some.
        let at = s.are_free.within t (rw (free_is slots nexts prevs first s) at some) in
        (at.0, at.1, none_at t at.2);
  }
    where
      once : (t u : ℕ) → times u (ring_at slots nexts t) ≤ 1
      once t u =
          elim (cases_Bool (is_taken slots t)) [
            | inl taken ↦ let ring = s.linked.rings.ring t taken
                in rw (ring_at-is slots nexts t ring.0 ring.1) (ring.1.once u)
            | inr out ↦ rw (ring_at-free slots nexts t out) (omega arith)
          ]

      held : (t u : ℕ) → 0 < times u (ring_at slots nexts t) → is_taken slots u ≡ true
      held t u some =
          elim (cases_Bool (is_taken slots t)) [
            | inl taken ↦ let ring = s.linked.rings.ring t taken in ring.1.held u
                (rw (ring_at-is slots nexts t ring.0 ring.1) at some)
            | inr out ↦ absurd (omega (arith, rw (ring_at-free slots nexts t out) at some))
          ]

      turned : (t u : ℕ) (before after : List ℕ) → ring_at slots nexts t ≡ before ++ u ∷ after
          → at_token (rings_of slots nexts) u [] ≡ u ∷ (after ++ before)
      turned t u before after split =
          elim (cases_Bool (is_taken slots t)) [
            | inl taken ↦
                let ring = s.linked.rings.ring t taken in
                at_token-rings_of slots nexts u
                ∙ ring_at-is slots nexts u (after ++ before)
                (IsRing-turned (link_of nexts) (is_taken slots) t u ring.0 before after
                (sym (ring_at-is slots nexts t ring.0 ring.1) ∙ split) ring.1)
            | inr out ↦ absurd (no_place before (sym (ring_at-free slots nexts t out) ∙ split))
          ]
        where
          no_place : (bs : List ℕ) → [] ≡ bs ++ u ∷ after → ⊥
          no_place [] e = cc
          no_place (b ∷ bs) e = cc

      none_at : (t : ℕ) → is_taken slots t ≡ false → at_token slots t None ≡ None
      none_at t out = by_slot (at_token slots t None) out
        where
          by_slot : (slot : Option T) → is_some slot ≡ false → slot ≡ None
          by_slot None out = refl
          by_slot (Some x) out = absurd (true≢false out)

  -- the token stands last in the list that begins with the head
  pub ring_from-linked : (slots : List (Option T)) (nexts prevs : List ℕ) (first room a head : ℕ)
      → IsSound slots nexts prevs first → is_taken slots head ≡ true → head ≢ a
      → ring_from (linked (view_of slots nexts first room) a head) head
      ≡ ring_from (view_of slots nexts first room) head ++ a ∷ []
  ring_from-linked slots nexts prevs first room a head s taken apart =
      let ring = s.linked.rings.ring head taken in
      let none : times head ring.0 ≡ 0 = omega (arith, ring.1.once head, times-here head ring.0) in
      let read = at_token-rings_of slots nexts head ∙ ring_at-is slots nexts head ring.0 ring.1 in
      at_token-with_other (map (joined a head) (rings_of slots nexts)) a head _ [] apart
      ∙ at_token-map (joined a head) (rings_of slots nexts) head []
      ∙ ap (joined a head) read
      ∙ rw (eq-eqb head head refl, before_head_none a head ring.0 none)
      (ap (λ xs. xs ++ a ∷ []) (sym read))

  -- the token is left a ring of its own
  pub ring_from-unlinked : (slots : List (Option T)) (nexts : List ℕ) (first room a : ℕ)
      → is_taken slots a ≡ true → ring_from (unlinked (view_of slots nexts first room) a) a ≡ a ∷ []
  ring_from-unlinked slots nexts first room a taken =
      let here = taken_within slots a taken in
      at_token-with_same (map (without a) (rings_of slots nexts)) a (a ∷ []) [] here.0
      (omega (
        arith,
        here.1,
        length-map (rings_of slots nexts)
            (without a),
        length-rings_of slots nexts,
      ))

  -- the look-up's token is its own successor exactly in a ring of one
  pub alone_found : {X : Type 0} (slots : List (Option T)) (nexts prevs : List ℕ)
      (first room t : ℕ) (value : X → T) (answer : Option (X × Token))
      → AreLinked slots nexts prevs
      → IfSome answer (λ found. at_token slots t None ≡ Some (value found.0))
      → IfSome answer (λ found. non_zero_u32_get found.1 ≡ link_of nexts t)
      → IfSome answer (λ found. (non_zero_u32_get found.1 ≡ t) ↔
      (ring_from (view_of slots nexts first room) t ≡ t ∷ []))
  alone_found slots nexts prevs first room t value None linked item next = tt
  alone_found slots nexts prevs first room t value (Some found) linked item next = (
    λ own. alone-from_link slots nexts prevs first room t linked (ap is_some item) (sym next ∙ own),
    λ alone. next ∙ alone-to_link slots nexts prevs first room t linked (ap is_some item) alone,
  )

-- what always holds of a slab, from what always holds of its nodes
pub IsParted-nodes : {N T : Type 0} {nexts prevs : List ℕ} (item_of : N → Option T) (nodes : List N)
    (first capacity len : ℕ) → len ≡ length nodes → IsSound (map item_of nodes) nexts prevs first
    → IsParted (view_of (map item_of nodes) nexts first (room_of capacity len))
IsParted-nodes {nexts = nexts} {prevs = prevs} item_of nodes first capacity len long s =
    let slots = length-map nodes item_of in
    let few : length (map item_of nodes) + room_of capacity len ≤ 4294967294 =
    omega (arith, s.few) in
    IsParted-of (map item_of nodes) nexts prevs first (room_of capacity len) few s
