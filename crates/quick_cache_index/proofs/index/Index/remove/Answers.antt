use Rattle.std.proofs.Common.{refl, ◌≡◌, ◌≤◌, ◌+◌, ◌∙◌, ap, sym, subst, ℕ, arith, count_by, get_or, set}
use Rattle.std.proofs.lemmas.List.{with_items_is}
use Rattle.std.specs.Int.NonZero.{non_zero_u32_get}
use Rattle.quick_cache_index.specs.Index.{Index, home_of, holds}
use Rattle.quick_cache_index.proofs.ShownTokens.{LeavesPlace-lent, KeepsOtherLeads-leave, LosesToken-leave, IsGrouped-as_long}
use Rattle.quick_cache_index.proofs.ShownTokens.{IsSound-leave, distances-at_home}
use Rattle.quick_cache_index.proofs.index.Index.remove.Goals as goal

pub invariant_of-self : goal.invariant_of-self
invariant_of-self g c =
    let inside = c.self.inside in
    let shown = c.args.self.now in
    let token : ℕ = non_zero_u32_get c.args.token in
    let position = c.in-Some.position in
    let read : c.begin-walk.result.tokens.now ≡ inside.tokens.items =
    ap (λ b. b.now) c.begin-walk.ensures.tokens ∙ c.as_slice-2.ensures.value in
    let tokens_are : inside.tokens.items ≡ shown.tokens = ap (λ i. i.tokens) c.self.view_is in
    let once : count_by (holds token) shown.tokens ≤ 1 =
    subst (λ ts. count_by (holds token) ts ≤ 1) tokens_are (c.self.invariant.once token) in
    let found : get_or shown.tokens position 0 ≡ token =
    ap (λ ts. get_or ts position 0) (sym (read ∙ tokens_are)) ∙ c.in-Some.ensures.found
    ∙ c.get.ensures.value in
    let far : inside.distances.items ≡ set inside.distances.items position 0 =
    subst (λ ds. ds ≡ set ds position 0) (sym (ap (λ i. i.distances) c.self.view_is))
    (distances-at_home shown c.args.hash token position c.requires.there once found
    (c.in-Some.ensures.here ∙ c.begin-walk.ensures.at_home
    ∙ ap (λ m. home_of m c.args.hash) (ap (λ i. i.mask) c.self.view_is))) in
    let leaves =
    LeavesPlace-lent inside.tags.items c.free_place.new.tags inside.tokens.items
    c.free_place.new.tokens inside.distances.items inside.distances.items inside.reaches.items
    inside.reaches.items c.as_mut_slice.result.now c.as_mut_slice-in-Some.result.now
    inside.distances.items inside.reaches.items c.begin-walk.result.tokens.now c.get.result token
    position c.as_mut_slice.ensures.value c.as_mut_slice-in-Some.ensures.value refl refl read
    c.get.ensures.value c.args.token.ok c.in-Some.ensures.found c.free_place.ensures.tags
    c.free_place.ensures.tokens far (λ _ _ _ reached. reached) in
    rw (
      with_items_is inside.tags c.free_place.new.tags (omega arith),
      with_items_is inside.tokens c.free_place.new.tokens (omega arith),
    )
    (IsSound-leave inside.tags.items c.free_place.new.tags inside.tokens.items
    c.free_place.new.tokens inside.distances.items inside.distances.items inside.reaches.items
    inside.reaches.items inside.mask inside.room (inside.room + 1) token position c.self.invariant
    (IsGrouped-as_long inside.tags.items c.free_place.new.tags inside.tokens.items
    c.free_place.new.tokens inside.reaches.items inside.mask c.self.invariant.sized
    (omega arith) (omega arith))
    leaves refl refl)

pub returns-in-Some-clause-tokens : goal.returns-in-Some-clause-tokens
returns-in-Some-clause-tokens g c =
    let inside = c.self.inside in
    let old = c.args.self.now in
    let token : ℕ = non_zero_u32_get c.args.token in
    let position = c.in-Some.position in
    let tokens_are : inside.tokens.items ≡ old.tokens = ap (λ i. i.tokens) c.self.view_is in
    let read : c.begin-walk.result.tokens.now ≡ old.tokens =
    ap (λ b. b.now) c.begin-walk.ensures.tokens ∙ c.as_slice-2.ensures.value ∙ tokens_are in
    let once : count_by (holds token) old.tokens ≤ 1 =
    subst (λ ts. count_by (holds token) ts ≤ 1) tokens_are (c.self.invariant.once token) in
    let found : get_or old.tokens position 0 ≡ token =
    ap (λ ts. get_or ts position 0) (sym read) ∙ c.in-Some.ensures.found ∙ c.get.ensures.value in
    let far = distances-at_home old c.args.hash token position c.requires.there once found
    (c.in-Some.ensures.here ∙ c.begin-walk.ensures.at_home
    ∙ ap (λ m. home_of m c.args.hash) (ap (λ i. i.mask) c.self.view_is)) in
    let leaves =
    LeavesPlace-lent old.tags c.free_place.new.tags old.tokens c.free_place.new.tokens
    old.distances old.distances old.reaches old.reaches c.as_mut_slice.result.now
    c.as_mut_slice-in-Some.result.now old.distances old.reaches
    c.begin-walk.result.tokens.now c.get.result token position
    (c.as_mut_slice.ensures.value ∙ ap (λ i. i.tags) c.self.view_is)
    (c.as_mut_slice-in-Some.ensures.value ∙ tokens_are) refl refl read
    c.get.ensures.value c.args.token.ok c.in-Some.ensures.found c.free_place.ensures.tags
    c.free_place.ensures.tokens far (λ _ _ _ reached. reached) in
    let new : Index = record old {
      tags = c.free_place.new.tags;
      tokens = c.free_place.new.tokens;
      mask = inside.mask;
    } in
    rw (with_items_is inside.tokens c.free_place.new.tokens (omega arith))
    (LosesToken-leave old new token position leaves once)

pub returns-in-Some-clause-kept : goal.returns-in-Some-clause-kept
returns-in-Some-clause-kept g c =
    let inside = c.self.inside in
    let old = c.args.self.now in
    let token : ℕ = non_zero_u32_get c.args.token in
    let position = c.in-Some.position in
    let tokens_are : inside.tokens.items ≡ old.tokens = ap (λ i. i.tokens) c.self.view_is in
    let distances_are : inside.distances.items ≡ old.distances =
    ap (λ i. i.distances) c.self.view_is in
    let reaches_are : inside.reaches.items ≡ old.reaches =
    ap (λ i. i.reaches) c.self.view_is in
    let read : c.begin-walk.result.tokens.now ≡ old.tokens =
    ap (λ b. b.now) c.begin-walk.ensures.tokens ∙ c.as_slice-2.ensures.value ∙ tokens_are in
    let once : count_by (holds token) old.tokens ≤ 1 =
    subst (λ ts. count_by (holds token) ts ≤ 1) tokens_are (c.self.invariant.once token) in
    let found : get_or old.tokens position 0 ≡ token =
    ap (λ ts. get_or ts position 0) (sym read) ∙ c.in-Some.ensures.found ∙ c.get.ensures.value in
    let far : inside.distances.items ≡ set inside.distances.items position 0 =
    subst (λ ds. ds ≡ set ds position 0) (sym distances_are)
    (distances-at_home old c.args.hash token position c.requires.there once found
    (c.in-Some.ensures.here ∙ c.begin-walk.ensures.at_home
    ∙ ap (λ m. home_of m c.args.hash) (ap (λ i. i.mask) c.self.view_is))) in
    let leaves =
    LeavesPlace-lent old.tags c.free_place.new.tags old.tokens c.free_place.new.tokens
    old.distances inside.distances.items old.reaches inside.reaches.items
    c.as_mut_slice.result.now c.as_mut_slice-in-Some.result.now inside.distances.items
    inside.reaches.items c.begin-walk.result.tokens.now c.get.result token position
    (c.as_mut_slice.ensures.value ∙ ap (λ i. i.tags) c.self.view_is)
    (c.as_mut_slice-in-Some.ensures.value ∙ tokens_are) distances_are reaches_are read
    c.get.ensures.value c.args.token.ok c.in-Some.ensures.found c.free_place.ensures.tags
    c.free_place.ensures.tokens far (λ _ _ _ reached. reached) in
    rw (
      with_items_is inside.tags c.free_place.new.tags (omega arith),
      with_items_is inside.tokens c.free_place.new.tokens (omega arith),
    )
    (KeepsOtherLeads-leave old _ token position leaves (ap (λ i. i.mask) c.self.view_is))
