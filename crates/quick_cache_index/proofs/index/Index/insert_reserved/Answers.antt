use Rattle.std.proofs.Common.{◌≡◌, ◌-◌, ◌∙◌, ap, sym, ℕ, arith, length, count_by}
use Rattle.std.proofs.lemmas.List.{with_items_is}
use Rattle.std.specs.Int.NonZero.{non_zero_u32_get}
use Rattle.quick_cache_index.specs.Index.{holds}
use Rattle.quick_cache_index.specs.IndexGroups.{taken_count, capacity_of}
use Rattle.quick_cache_index.proofs.ShownTokens.{TakesPlace-lent, Leads-take, KeepsAllLeads-take, IsSound-take, count_by-absent}
use Rattle.quick_cache_index.proofs.ShownTokens.{free-from_room}
use Rattle.quick_cache_index.proofs.index.Index.insert_reserved.Goals as goal

-- an index with room has a free place
pub take_place-requires-clause-room : goal.take_place-requires-clause-room
take_place-requires-clause-room g c =
    let inside = c.self.inside in
    let room : c.args.self.now.room
    ≡ capacity_of (length inside.reaches.items) - taken_count inside.tokens.items =
    sym (ap (λ i. i.room) c.self.view_is) in
    rw c.as_mut_slice-2.ensures.value
    (free-from_room inside.tags.items inside.tokens.items inside.distances.items
    inside.reaches.items inside.mask inside.room c.self.invariant (omega (arith, room, c.requires.room, c.self.invariant.counted)))

pub invariant_of-self : goal.invariant_of-self
invariant_of-self g c =
    let inside = c.self.inside in
    let token : ℕ = non_zero_u32_get c.args.token in
    let takes =
    TakesPlace-lent inside.tags.items c.take_place.new.tags inside.tokens.items
    c.take_place.new.tokens inside.distances.items c.take_place.new.distances
    inside.reaches.items c.take_place.new.reaches c.as_mut_slice.result.now
    c.as_mut_slice-2.result.now c.as_mut_slice-3.result.now c.as_mut_slice-4.result.now
    inside.mask c.args.hash c.get.result token c.as_mut_slice.ensures.value
    c.as_mut_slice-2.ensures.value c.as_mut_slice-3.ensures.value c.as_mut_slice-4.ensures.value
    c.get.ensures.value c.take_place.ensures.takes in
    let room : c.args.self.now.room
    ≡ capacity_of (length inside.reaches.items) - taken_count inside.tokens.items =
    sym (ap (λ i. i.room) c.self.view_is) in
    let absent =
    ap (λ i. count_by (holds token) i.tokens) c.self.view_is
    ∙ count_by-absent c.args.self.now token c.requires.is_new in
    rw (
      with_items_is inside.tags c.take_place.new.tags (omega arith),
      with_items_is inside.tokens c.take_place.new.tokens (omega arith),
      with_items_is inside.distances c.take_place.new.distances (omega arith),
      with_items_is inside.reaches c.take_place.new.reaches (omega arith),
    )
    (IsSound-take inside.tags.items c.take_place.new.tags inside.tokens.items
    c.take_place.new.tokens inside.distances.items c.take_place.new.distances
    inside.reaches.items c.take_place.new.reaches inside.mask inside.room
    c.args.hash token c.self.invariant c.take_place.ensures.sized takes c.args.token.ok absent
    (omega (arith, room, c.requires.room, c.self.invariant.counted)))

pub returns-clause-leads : goal.returns-clause-leads
returns-clause-leads g c =
    let inside = c.self.inside in
    let old = c.args.self.now in
    let token : ℕ = non_zero_u32_get c.args.token in
    let takes =
    TakesPlace-lent old.tags c.take_place.new.tags old.tokens c.take_place.new.tokens
    old.distances c.take_place.new.distances old.reaches c.take_place.new.reaches
    c.as_mut_slice.result.now c.as_mut_slice-2.result.now c.as_mut_slice-3.result.now
    c.as_mut_slice-4.result.now inside.mask c.args.hash c.get.result token
    (c.as_mut_slice.ensures.value ∙ ap (λ i. i.tags) c.self.view_is)
    (c.as_mut_slice-2.ensures.value ∙ ap (λ i. i.tokens) c.self.view_is)
    (c.as_mut_slice-3.ensures.value ∙ ap (λ i. i.distances) c.self.view_is)
    (c.as_mut_slice-4.ensures.value ∙ ap (λ i. i.reaches) c.self.view_is) c.get.ensures.value
    c.take_place.ensures.takes in
    let long : length old.tags ≡ length old.tokens =
    sym (ap (λ i. length i.tags) c.self.view_is) ∙ c.self.invariant.sized.tagged
    ∙ ap (λ i. length i.tokens) c.self.view_is in
    let as_long : length old.distances ≡ length old.tags =
    sym (ap (λ i. length i.distances) c.self.view_is) ∙ c.self.invariant.distant.as_long
    ∙ ap (λ i. length i.tags) c.self.view_is in
    rw (
      with_items_is inside.tags c.take_place.new.tags (omega arith),
      with_items_is inside.tokens c.take_place.new.tokens (omega arith),
      with_items_is inside.distances c.take_place.new.distances (omega arith),
      with_items_is inside.reaches c.take_place.new.reaches (omega arith),
    )
    (Leads-take old _ c.args.hash token takes long as_long c.args.token.ok)

pub returns-clause-kept : goal.returns-clause-kept
returns-clause-kept g c =
    let inside = c.self.inside in
    let old = c.args.self.now in
    let token : ℕ = non_zero_u32_get c.args.token in
    let takes =
    TakesPlace-lent old.tags c.take_place.new.tags old.tokens c.take_place.new.tokens
    old.distances c.take_place.new.distances old.reaches c.take_place.new.reaches
    c.as_mut_slice.result.now c.as_mut_slice-2.result.now c.as_mut_slice-3.result.now
    c.as_mut_slice-4.result.now inside.mask c.args.hash c.get.result token
    (c.as_mut_slice.ensures.value ∙ ap (λ i. i.tags) c.self.view_is)
    (c.as_mut_slice-2.ensures.value ∙ ap (λ i. i.tokens) c.self.view_is)
    (c.as_mut_slice-3.ensures.value ∙ ap (λ i. i.distances) c.self.view_is)
    (c.as_mut_slice-4.ensures.value ∙ ap (λ i. i.reaches) c.self.view_is) c.get.ensures.value
    c.take_place.ensures.takes in
    rw (
      with_items_is inside.tags c.take_place.new.tags (omega arith),
      with_items_is inside.tokens c.take_place.new.tokens (omega arith),
      with_items_is inside.distances c.take_place.new.distances (omega arith),
      with_items_is inside.reaches c.take_place.new.reaches (omega arith),
    )
    (KeepsAllLeads-take old _ c.args.hash token takes (ap (λ i. i.mask) c.self.view_is))
