use Rattle.std.proofs.Common.{◌≡◌, ap, sym, subst, ◌∙◌, List, ℕ, arith, count_by, refl, nat_lt, ◌-◌}
use Rattle.std.proofs.lemmas.List.{with_items_is}
use Rattle.std.specs.Int.NonZero.{non_zero_u32_get}
use Rattle.quick_cache_containers.specs.Places.{Place}
use Rattle.quick_cache_containers.specs.Table.{in_order}
use Rattle.quick_cache_containers.specs.TableGroups.{pairs_of, holds_pair, tokens_left, AreTokensOf}
use Rattle.quick_cache_containers.proofs.ShownPairs.{IsSound-lose, RemovesPair-from_more, has_pair-count, HasOneMore-found}
use Rattle.quick_cache_containers.proofs.table.Table.remove.Goals as goal

-- the walk is over the pairs of that hash
pub position_of-requires-clause-all : goal.position_of-requires-clause-all
position_of-requires-clause-all g c =
    let P : List Place → Type 0 =
    λ ps. AreTokensOf ps c.args.hash (tokens_left c.new-walk.result) in
    let Q : ℕ → Type 0 =
    λ h. AreTokensOf c.new-walk.result.places h (tokens_left c.new-walk.result) in
    subst Q (sym c.new-walk.ensures.hash)
    (subst P (sym c.new-walk.ensures.places) c.new-walk.ensures.all)

-- nothing that holds the pair was found
pub returns-in_default-clause-found : goal.returns-in_default-clause-found
returns-in_default-clause-found g c =
    let places : List Place = c.self.inside.places.items in
    let token : ℕ = non_zero_u32_get c.args.token in
    let shows : c.args.self.now.pairs ≡ in_order (pairs_of places) =
    sym (ap (λ t. t.pairs) c.self.view_is) in
    let read : count_by (holds_pair c.new-walk.result.hash c.get.result)
    c.new-walk.result.places ≡ 0 =
    c.in_default.ensures.none in
    let P : List Place → Type 0 =
    λ ps. count_by (holds_pair c.new-walk.result.hash c.get.result) ps ≡ 0 in
    let H : ℕ → Type 0 = λ h. count_by (holds_pair h c.get.result) places ≡ 0 in
    let Q : ℕ → Type 0 = λ t. count_by (holds_pair c.args.hash t) places ≡ 0 in
    let none =
    subst Q c.get.ensures.value (subst H c.new-walk.ensures.hash
    (subst P (c.new-walk.ensures.places ∙ c.seen.ensures) read)) in (
      λ wrong. absurd (cc),
      λ has. sym
          (has_pair-count c.args.self.now places c.args.hash token shows ∙ ap (λ n. nat_lt 0 n) none) ∙
          has,
    )

pub invariant_of-self : goal.invariant_of-self
invariant_of-self g c =
    let inside = c.self.inside in
    let token : ℕ = non_zero_u32_get c.args.token in
    let one =
    HasOneMore-found c.self.inside.places.items c.new-walk.result.places
    c.self.inside.places.items c.leave_place.new.places.items c.in-Some.position
    c.new-walk.result.hash c.args.hash c.get.result token
    (c.new-walk.ensures.places ∙ c.seen.ensures) refl
    c.new-walk.ensures.hash c.get.ensures.value c.in-Some.ensures.found
    c.leave_place.ensures.loses in
    rw (
      with_items_is inside.tags c.leave_place.new.tags (omega arith),
      with_items_is inside.reaches c.leave_place.new.reaches
          (omega arith),
    )
    (IsSound-lose inside.tags.items c.leave_place.new.tags inside.places.items
    c.leave_place.new.places.items inside.reaches.items c.leave_place.new.reaches inside.mask inside.len
    (inside.len - 1) c.args.hash token c.self.invariant (omega arith) c.leave_place.ensures.whole
    one refl)

pub returns-clause-found : goal.returns-clause-found
returns-clause-found g c =
    let places : List Place = c.self.inside.places.items in
    let token : ℕ = non_zero_u32_get c.args.token in
    let shows : c.args.self.now.pairs ≡ in_order (pairs_of places) =
    sym (ap (λ t. t.pairs) c.self.view_is) in
    let one =
    HasOneMore-found places c.new-walk.result.places c.self.inside.places.items
    c.leave_place.new.places.items c.in-Some.position c.new-walk.result.hash c.args.hash c.get.result
    token (c.new-walk.ensures.places ∙ c.seen.ensures)
    refl c.new-walk.ensures.hash c.get.ensures.value
    c.in-Some.ensures.found c.leave_place.ensures.loses in
    let removed =
    RemovesPair-from_more c.args.self.now
    (record c.args.self.now { pairs = in_order (pairs_of c.leave_place.new.places.items) }) places
    c.leave_place.new.places.items c.args.hash token shows refl
    (c.self.invariant.once c.args.hash token) one in
    (λ _. removed.had, λ _. refl)

pub returns-clause-removes : goal.returns-clause-removes
returns-clause-removes g c =
    let places : List Place = c.self.inside.places.items in
    let token : ℕ = non_zero_u32_get c.args.token in
    let shows : c.args.self.now.pairs ≡ in_order (pairs_of places) =
    sym (ap (λ t. t.pairs) c.self.view_is) in
    let one =
    HasOneMore-found places c.new-walk.result.places c.self.inside.places.items
    c.leave_place.new.places.items c.in-Some.position c.new-walk.result.hash c.args.hash c.get.result
    token (c.new-walk.ensures.places ∙ c.seen.ensures)
    refl c.new-walk.ensures.hash c.get.ensures.value
    c.in-Some.ensures.found c.leave_place.ensures.loses in
    RemovesPair-from_more c.args.self.now _ places c.leave_place.new.places.items c.args.hash token shows
    refl
    (c.self.invariant.once c.args.hash token) one
