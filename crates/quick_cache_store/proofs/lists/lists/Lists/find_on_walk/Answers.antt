use Rattle.std.proofs.Common.{◌∙◌, sym, ap, subst, List, ℕ, Some, true≢false}
use Rattle.std.specs.Int.NonZero.{non_zero_u32_get as number}
use Rattle.quick_cache_index.specs.Index.{AreCandidates}
use Rattle.quick_cache_store.specs.ListSlots.{has_hash, is_under_at, is_item_at, is_ghost_at}
use Rattle.quick_cache_store.proofs.lists.FindLemmas.{occupied_by_token, FindsItem-from, FindsLoading-from, StandsIn-found, HasNoKey-from}
use Rattle.quick_cache_store.proofs.lists.FindLemmas.{HasNothing-from, IsWalked-start, IsWalked-past, IsWalked-has, IsWalked-none}
use Rattle.quick_cache_store.proofs.lists.FindLemmas.{IsWalked-ghostless, IsWalked-noted}
use Rattle.quick_cache_store.proofs.lists.lists.Lists.find_on_walk.Goals as goal

pub loop-token-init : goal.loop-token-init
loop-token-init g c =
    IsWalked-start _ _ _ _ _ c.self.invariant.keyed (subst
    (λ (tokens : List ℕ). AreCandidates c.self.inside.index c.args.hash tokens)
    (sym c.into_iter-token-iterator.ensures.into_iter_gives) c.candidates-token-items.ensures)

pub returns-then-is_item : goal.returns-then-is_item
returns-then-is_item g c =
    let i = c.self.inside in
    let has = ap (has_hash c.args.hash) c.slot-slot.ensures ∙ sym c.is_of.ensures
    ∙ c.if-not-is_of.false in
    rw (← c.self.view_is) (FindsItem-from i.slots i.index i.rings
    c.self.invariant.standing c.self.invariant.keyed _ c.args.hash (number c.in-Some.token) has
    (ap (is_under_at (g.Q.Equivalent.equivalent c.args.query.now)) c.slot-slot.ensures
    ∙ sym c.is_under.ensures ∙ c.if-is_under.true)
    (ap is_item_at c.slot-slot.ensures ∙ sym c.is_item.ensures ∙ c.if-is_item.true))

pub returns-else-is_item : goal.returns-else-is_item
returns-else-is_item g c =
    let i = c.self.inside in
    let has = ap (has_hash c.args.hash) c.slot-slot.ensures ∙ sym c.is_of.ensures
    ∙ c.if-not-is_of.false in
    rw (← c.self.view_is) (FindsLoading-from i.slots i.index i.rings
    c.self.invariant.standing c.self.invariant.keyed _ c.args.hash (number c.in-Some.token) has
    (ap (is_under_at (g.Q.Equivalent.equivalent c.args.query.now)) c.slot-slot.ensures
    ∙ sym c.is_under.ensures ∙ c.if-is_under.true)
    (ap is_item_at c.slot-slot.ensures ∙ sym c.is_item.ensures ∙ c.if-is_item.false))

pub loop-token-preserved-then-is_ghost : goal.loop-token-preserved-then-is_ghost
loop-token-preserved-then-is_ghost g c =
    let i = c.self.inside in
    let has = ap (has_hash c.args.hash) c.slot-slot.ensures ∙ sym c.is_of.ensures
    ∙ c.if-not-is_of.false in
    IsWalked-past i.slots i.index c.args.hash _ _ _ c.in-Some.token _
    (Some c.in-Some.token) c.in-Some.ensures.steps
    (λ _. ap (is_under_at (g.Q.Equivalent.equivalent c.args.query.now))
    c.slot-slot.ensures ∙ sym c.is_under.ensures ∙ c.if-is_under.false)
    (λ _ _ e. absurd (cc)) (λ _ e. absurd (cc)) (
      has,
      ap is_ghost_at c.slot-slot.ensures ∙ sym c.is_ghost.ensures
          ∙ c.if-is_ghost.true,
    ) c.loop-token.invariant

pub loop-token-preserved : goal.loop-token-preserved
loop-token-preserved g c =
    let i = c.self.inside in
    IsWalked-past i.slots i.index c.args.hash _ _ _ c.in-Some.token _ c.loop-token.shade
    c.in-Some.ensures.steps (λ _. ap (is_under_at (g.Q.Equivalent.equivalent c.args.query.now))
    c.slot-slot.ensures ∙ sym c.is_under.ensures ∙ c.if-is_under.false)
    (λ _ is _. true≢false (sym is ∙ ap is_ghost_at c.slot-slot.ensures
    ∙ sym c.is_ghost.ensures ∙ c.if-is_ghost.false))
    (λ some. some) c.loop-token.invariant.noted c.loop-token.invariant

-- another hash was passed
pub loop-token-preserved-then-not-is_of : goal.loop-token-preserved-then-not-is_of
loop-token-preserved-then-not-is_of g c =
    let i = c.self.inside in
    let off = ap (has_hash c.args.hash) c.slot-slot.ensures ∙ sym c.is_of.ensures
    ∙ c.if-not-is_of.true in
    IsWalked-past i.slots i.index c.args.hash _ _ _ c.in-Some.token _ c.loop-token.shade
    c.in-Some.ensures.steps (λ has. absurd (true≢false (sym has ∙ off)))
    (λ has. absurd (true≢false (sym has ∙ off)))
    (λ some. some) c.loop-token.invariant.noted c.loop-token.invariant

pub returns-in-Some-shade : goal.returns-in-Some-shade
returns-in-Some-shade g c =
    let i = c.self.inside in
    let noted = IsWalked-noted i.slots i.index c.args.hash _ _ _ c.in-Some-shade.token
    c.in-Some-shade.is c.loop-token.invariant in
    rw (← c.self.view_is) (
      HasNoKey-from i.slots i.index i.rings
          c.self.invariant.standing c.self.invariant.keyed _ c.args.hash
          (IsWalked-none i.slots i.index c.args.hash _ _ _ c.in-None.ensures.steps.0
          c.loop-token.invariant),
      StandsIn-found i.slots i.index i.rings c.self.invariant.standing c.self.invariant.keyed
          (g.Q.Equivalent.equivalent c.args.query.now) c.args.hash
          (number c.in-Some-shade.token) noted.0 noted.1,
    )

pub returns-in-None-shade : goal.returns-in-None-shade
returns-in-None-shade g c =
    let i = c.self.inside in
    rw (← c.self.view_is) (HasNothing-from i.slots i.index i.rings
    c.self.invariant.standing c.self.invariant.keyed _ c.args.hash
    (IsWalked-none i.slots i.index c.args.hash _ _ _ c.in-None.ensures.steps.0
    c.loop-token.invariant) (IsWalked-ghostless i.slots i.index c.args.hash _ _ _
    c.in-None.ensures.steps.0 c.in-None-shade.is c.loop-token.invariant))

pub slot-slot-requires : goal.slot-slot-requires
slot-slot-requires g c =
    let i = c.self.inside in
    let has = IsWalked-has i.slots i.index c.args.hash _ _ _ c.in-Some.token _
    c.in-Some.ensures.steps c.loop-token.invariant in
    occupied_by_token i.slots i.index c.self.invariant.keyed (number c.in-Some.token) has
