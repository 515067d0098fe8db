-- The first of a ring leaves it.
use Rattle.std.proofs.Common.{◌≡◌, ℕ, ◌<◌, ◌≤◌, List, [], ◌∷◌, length, drop, get_or, Option, Some, false, refl, sym, ap, subst, ◌∙◌, arith}
use Rattle.std.specs.Int.NonZero.{non_zero_u32_get as number}
use Rattle.std.specs.declared.num.NonZeroU32.{NonZeroU32 as Token}
use Rattle.quick_cache_model.specs.Sequences.{times}
use Rattle.quick_cache_store.specs.Pool.{Pool, item_at}
use Rattle.quick_cache_store.proofs.pool.TokenCounts.{times-here}
use Rattle.quick_cache_index.specs.Index.{Index}
use Rattle.quick_cache_store.specs.Rings.{Ring, Rings, IsLeft, LeavesRingOf, without_first, first_forgotten}
use Rattle.quick_cache_store.specs.declared.slots.entry.Slot.{Slot}
use Rattle.quick_cache_store.specs.Lists.{HeldItem, HeldGhost, HasGhostToken, IsFirstOf}
use Rattle.quick_cache_store.specs.ListSlots.{AmongCold, AmongGhosts, weight_at, item_of, ghost_of}
use Rattle.quick_cache_store.specs.Sound.{put, gather, lists_of, IsStanding}
use Rattle.quick_cache_store.proofs.lists.ItemLemmas.{stand_of-first_cold}
use Rattle.quick_cache_store.proofs.lists.SoundLemmas.{ring_weighs}
use Rattle.quick_cache_store.proofs.lists.TakeLemmas.{is_held, is_ghost_entry, named_item, named_ghost}

-- each token shows something, so the first that is shown is shown by the first token
first_shown : {Y : Type 0} (shows : ℕ → Option Y) (name : Y → ℕ) (tokens : List ℕ)
    → ((u : ℕ) → 0 < times u tokens → (y : Y) × (shows u ≡ Some y) × (name y ≡ u))
    → (token : Token) → IsFirstOf name (gather shows tokens) (Some token)
    → tokens ≡ number token ∷ drop 1 tokens
first_shown shows name [] each token first = absurd (omega (arith, ap length first.2))
first_shown shows name (u ∷ us) each token first =
    let shown = each u (omega (arith, times-here u us)) in
    let split : shown.0 ∷ gather shows us ≡ first.0 ∷ first.1 =
    ap (λ o. put o (gather shows us)) (sym shown.1) ∙ first.2 in
    ap (λ (n : ℕ). n ∷ us)
    (sym shown.2 ∙ ap name (ap (λ ys. get_or ys 0 shown.0) split) ∙ first.3)

first-left : (ring : Ring) (t w : ℕ) → ring.tokens ≡ t ∷ drop 1 ring.tokens → w ≤ ring.weight
    → IsLeft ring (without_first w ring) t false w
first-left ring t w is weighs = record {
  leaves = record { before = []; after = drop 1 ring.tokens; split = is; left = refl };
  weighed = omega (arith, weighs);
}

module _ {K V P T : Type 0} (slab : Pool (Slot K V P T)) (index : Index) (rings : Rings)
    (standing : IsStanding slab rings) (token : Token) where
  module _ (first : IsFirstOf (λ (held : HeldItem K V). held.token)
      (lists_of slab index rings).cold (Some token)) (w : ℕ)
      (weighs : weight_at (item_at slab (number token)) ≡ w) where
    -- the first cold item weighs no more than the cold ring
    pub first_cold-weighs : w ≤ rings.cold.weight
    first_cold-weighs = subst (λ (v : ℕ). v ≤ rings.cold.weight) weighs
        (ring_weighs slab rings.cold AmongCold (number token) standing.cold_ring
        (stand_of-first_cold slab index rings standing.cold_ring token first))

    -- it leaves
    pub first_cold-left : LeavesRingOf rings
        (record rings { cold = without_first w rings.cold }) (number token) false w AmongCold
    first_cold-left =
        let is = first_shown (λ u. item_of u (item_at slab u)) (λ held. held.token)
        rings.cold.tokens
        (λ u some.
        let held = is_held u (item_at slab u) AmongCold (λ e. cc) (λ e. cc)
        (standing.cold_ring.members u some) in
        (held.0, held.1, named_item u (item_at slab u) held.0 held.1)) token first in
        (first-left rings.cold (number token) w is first_cold-weighs, refl)

  module _ (first : IsFirstOf (λ (shade : HeldGhost). shade.token)
      (lists_of slab index rings).ghosts (Some token)) where
    -- the oldest ghost is one
    pub first_ghost : HasGhostToken (lists_of slab index rings) (number token)
    first_ghost =
        (first.0, record { before = []; after = first.1; split = first.2 }, first.3)

    -- it leaves
    pub first_ghost-left : (left : Rings) → left ≡ first_forgotten rings
        → LeavesRingOf rings left (number token) false 0 AmongGhosts
    first_ghost-left left forgotten =
        let is = first_shown (λ u. ghost_of u (item_at slab u)) (λ (shade : HeldGhost). shade.token)
        rings.ghosts.tokens
        (λ u some.
        let shade = is_ghost_entry u (item_at slab u) (standing.ghost_ring.members u some) in
        (shade.0, shade.1, named_ghost u (item_at slab u) shade.0 shade.1)) token first in
        rw forgotten (first-left rings.ghosts (number token) 0 is (omega arith), refl)
