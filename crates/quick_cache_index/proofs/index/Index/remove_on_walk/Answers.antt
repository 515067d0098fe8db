use Rattle.std.proofs.Common.{refl, ◌≡◌, ◌≤◌, ◌+◌, ◌==◌, ◌∙◌, ap, subst, ℕ, arith, length, count_by}
use Rattle.std.proofs.lemmas.List.{with_items_is}
use Rattle.std.specs.Int.NonZero.{non_zero_u32_get}
use Rattle.quick_cache_index.specs.Index.{Index, holds}
use Rattle.quick_cache_index.specs.IndexGroups.{candidates_left}
use Rattle.quick_cache_index.proofs.Candidates.{CoversTagged-lent, times-leads}
use Rattle.quick_cache_index.proofs.ShownTokens.{LeavesPlace-lent, KeepsOtherLeads-leave, LosesToken-leave, taken_count-leaves}
use Rattle.quick_cache_index.proofs.ShownTokens.{IsSound-leave}
use Rattle.quick_cache_index.proofs.index.Index.remove_on_walk.Goals as goal

-- the hash leads to the token, which is a candidate therefore
pub unreachable-requires : goal.unreachable-requires
unreachable-requires g c =
    let walk = c.new-walk.result in
    let shown = c.args.self.now in
    let token : ℕ = non_zero_u32_get c.args.token in
    let covers =
    CoversTagged-lent shown c.as_slice.result.now c.as_slice-2.result.now c.as_slice-3.result.now
    c.self.inside.mask c.args.hash (candidates_left walk)
    (c.as_slice.ensures.value ∙ ap (λ i. i.tags) c.self.view_is)
    (c.as_slice-2.ensures.value ∙ ap (λ i. i.tokens) c.self.view_is)
    (c.as_slice-3.ensures.value ∙ ap (λ i. i.reaches) c.self.view_is)
    (ap (λ i. i.mask) c.self.view_is) c.new-walk.ensures.all in
    let T : ℕ → Type 0 = λ k. count_by (λ t. t == k) (candidates_left walk) ≡ 0 in
    let none = subst T c.get.ensures.value c.in_default.ensures.none in
    let among = times-leads shown c.args.hash token (candidates_left walk) c.requires.there covers in
    omega (arith, none, among)

pub invariant_of-self : goal.invariant_of-self
invariant_of-self g c =
    let inside = c.self.inside in
    let token : ℕ = non_zero_u32_get c.args.token in
    let leaves =
    LeavesPlace-lent inside.tags.items c.leave_place.new.tags inside.tokens.items
    c.leave_place.new.tokens inside.distances.items c.leave_place.new.distances
    inside.reaches.items c.leave_place.new.reaches c.as_mut_slice.result.now
    c.as_mut_slice-2.result.now c.as_mut_slice-3.result.now c.as_mut_slice-4.result.now
    c.new-walk.result.tokens.now c.get.result token c.in-Some.position
    c.as_mut_slice.ensures.value c.as_mut_slice-2.ensures.value c.as_mut_slice-3.ensures.value
    c.as_mut_slice-4.ensures.value
    (ap (λ b. b.now) c.new-walk.ensures.tokens ∙ c.as_slice-2.ensures.value)
    c.get.ensures.value c.args.token.ok c.in-Some.ensures.found c.leave_place.ensures.tags
    c.leave_place.ensures.tokens c.leave_place.ensures.distances c.leave_place.ensures.reached in
    rw (
      with_items_is inside.tags c.leave_place.new.tags (omega arith),
      with_items_is inside.tokens c.leave_place.new.tokens (omega arith),
      with_items_is inside.distances c.leave_place.new.distances (omega arith),
      with_items_is inside.reaches c.leave_place.new.reaches (omega arith),
    )
    (IsSound-leave inside.tags.items c.leave_place.new.tags inside.tokens.items
    c.leave_place.new.tokens inside.distances.items c.leave_place.new.distances
    inside.reaches.items c.leave_place.new.reaches inside.mask inside.room (inside.room + 1) token c.in-Some.position c.self.invariant c.leave_place.ensures.sized leaves
    (omega arith) refl)

pub returns-clause-tokens : goal.returns-clause-tokens
returns-clause-tokens g c =
    let inside = c.self.inside in
    let old = c.args.self.now in
    let token : ℕ = non_zero_u32_get c.args.token in
    let tokens_are : inside.tokens.items ≡ old.tokens = ap (λ i. i.tokens) c.self.view_is in
    let leaves =
    LeavesPlace-lent old.tags c.leave_place.new.tags old.tokens c.leave_place.new.tokens
    old.distances c.leave_place.new.distances old.reaches c.leave_place.new.reaches
    c.as_mut_slice.result.now c.as_mut_slice-2.result.now c.as_mut_slice-3.result.now
    c.as_mut_slice-4.result.now c.new-walk.result.tokens.now c.get.result token
    c.in-Some.position (c.as_mut_slice.ensures.value ∙ ap (λ i. i.tags) c.self.view_is)
    (c.as_mut_slice-2.ensures.value ∙ tokens_are)
    (c.as_mut_slice-3.ensures.value ∙ ap (λ i. i.distances) c.self.view_is)
    (c.as_mut_slice-4.ensures.value ∙ ap (λ i. i.reaches) c.self.view_is)
    (ap (λ b. b.now) c.new-walk.ensures.tokens ∙ c.as_slice-2.ensures.value ∙ tokens_are)
    c.get.ensures.value c.args.token.ok c.in-Some.ensures.found c.leave_place.ensures.tags
    c.leave_place.ensures.tokens c.leave_place.ensures.distances c.leave_place.ensures.reached in
    let once : count_by (holds token) old.tokens ≤ 1 =
    subst (λ ts. count_by (holds token) ts ≤ 1) tokens_are (c.self.invariant.once token) in
    let new : Index = record old {
      tags = c.leave_place.new.tags;
      tokens = c.leave_place.new.tokens;
      distances = c.leave_place.new.distances;
      reaches = c.leave_place.new.reaches;
      mask = inside.mask;
    } in
    rw (with_items_is inside.tokens c.leave_place.new.tokens (omega arith))
    (LosesToken-leave old new token c.in-Some.position leaves once)

pub returns-clause-count : goal.returns-clause-count
returns-clause-count g c =
    let inside = c.self.inside in
    let old = c.args.self.now in
    let token : ℕ = non_zero_u32_get c.args.token in
    let tokens_are : inside.tokens.items ≡ old.tokens = ap (λ i. i.tokens) c.self.view_is in
    let leaves =
    LeavesPlace-lent old.tags c.leave_place.new.tags old.tokens c.leave_place.new.tokens
    old.distances c.leave_place.new.distances old.reaches c.leave_place.new.reaches
    c.as_mut_slice.result.now c.as_mut_slice-2.result.now c.as_mut_slice-3.result.now
    c.as_mut_slice-4.result.now c.new-walk.result.tokens.now c.get.result token
    c.in-Some.position (c.as_mut_slice.ensures.value ∙ ap (λ i. i.tags) c.self.view_is)
    (c.as_mut_slice-2.ensures.value ∙ tokens_are)
    (c.as_mut_slice-3.ensures.value ∙ ap (λ i. i.distances) c.self.view_is)
    (c.as_mut_slice-4.ensures.value ∙ ap (λ i. i.reaches) c.self.view_is)
    (ap (λ b. b.now) c.new-walk.ensures.tokens ∙ c.as_slice-2.ensures.value ∙ tokens_are)
    c.get.ensures.value c.args.token.ok c.in-Some.ensures.found c.leave_place.ensures.tags
    c.leave_place.ensures.tokens c.leave_place.ensures.distances c.leave_place.ensures.reached in
    rw (with_items_is inside.tokens c.leave_place.new.tokens (omega arith))
    (taken_count-leaves old.tags c.leave_place.new.tags old.tokens c.leave_place.new.tokens
    old.distances c.leave_place.new.distances old.reaches c.leave_place.new.reaches token
    c.in-Some.position leaves)

pub returns-clause-kept : goal.returns-clause-kept
returns-clause-kept g c =
    let inside = c.self.inside in
    let old = c.args.self.now in
    let token : ℕ = non_zero_u32_get c.args.token in
    let tokens_are : inside.tokens.items ≡ old.tokens = ap (λ i. i.tokens) c.self.view_is in
    let leaves =
    LeavesPlace-lent old.tags c.leave_place.new.tags old.tokens c.leave_place.new.tokens
    old.distances c.leave_place.new.distances old.reaches c.leave_place.new.reaches
    c.as_mut_slice.result.now c.as_mut_slice-2.result.now c.as_mut_slice-3.result.now
    c.as_mut_slice-4.result.now c.new-walk.result.tokens.now c.get.result token
    c.in-Some.position (c.as_mut_slice.ensures.value ∙ ap (λ i. i.tags) c.self.view_is)
    (c.as_mut_slice-2.ensures.value ∙ tokens_are)
    (c.as_mut_slice-3.ensures.value ∙ ap (λ i. i.distances) c.self.view_is)
    (c.as_mut_slice-4.ensures.value ∙ ap (λ i. i.reaches) c.self.view_is)
    (ap (λ b. b.now) c.new-walk.ensures.tokens ∙ c.as_slice-2.ensures.value ∙ tokens_are)
    c.get.ensures.value c.args.token.ok c.in-Some.ensures.found c.leave_place.ensures.tags
    c.leave_place.ensures.tokens c.leave_place.ensures.distances c.leave_place.ensures.reached in
    rw (
      with_items_is inside.tags c.leave_place.new.tags (omega arith),
      with_items_is inside.tokens c.leave_place.new.tokens (omega arith),
      with_items_is inside.distances c.leave_place.new.distances (omega arith),
      with_items_is inside.reaches c.leave_place.new.reaches (omega arith),
    )
    (KeepsOtherLeads-leave old _ token c.in-Some.position leaves
    (ap (λ i. i.mask) c.self.view_is))

pub returns-clause-room : goal.returns-clause-room
returns-clause-room g c =
    let inside = c.self.inside in
    let token : ℕ = non_zero_u32_get c.args.token in
    let leaves =
    LeavesPlace-lent inside.tags.items c.leave_place.new.tags inside.tokens.items
    c.leave_place.new.tokens inside.distances.items c.leave_place.new.distances
    inside.reaches.items c.leave_place.new.reaches c.as_mut_slice.result.now
    c.as_mut_slice-2.result.now c.as_mut_slice-3.result.now c.as_mut_slice-4.result.now
    c.new-walk.result.tokens.now c.get.result token c.in-Some.position
    c.as_mut_slice.ensures.value c.as_mut_slice-2.ensures.value c.as_mut_slice-3.ensures.value
    c.as_mut_slice-4.ensures.value
    (ap (λ b. b.now) c.new-walk.ensures.tokens ∙ c.as_slice-2.ensures.value)
    c.get.ensures.value c.args.token.ok c.in-Some.ensures.found c.leave_place.ensures.tags
    c.leave_place.ensures.tokens c.leave_place.ensures.distances c.leave_place.ensures.reached in
    let groups : length c.leave_place.new.reaches ≡ length inside.reaches.items = omega arith in
    rw (
      with_items_is inside.tokens c.leave_place.new.tokens (omega arith),
      with_items_is inside.reaches c.leave_place.new.reaches (omega arith),
    )
    (omega (
      arith,
      groups,
      taken_count-leaves inside.tags.items c.leave_place.new.tags inside.tokens.items
          c.leave_place.new.tokens inside.distances.items c.leave_place.new.distances
          inside.reaches.items c.leave_place.new.reaches token c.in-Some.position leaves,
      ap (λ i. i.room) c.self.view_is,
      c.self.invariant.counted,
    ))
