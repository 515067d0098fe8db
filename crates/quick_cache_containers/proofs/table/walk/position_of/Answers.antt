use Rattle.std.proofs.Common.{◌≡◌, ℕ, List, true, refl, sym, ap, subst, ◌∙◌}
use Rattle.quick_cache_containers.specs.Places.{Place}
use Rattle.quick_cache_containers.specs.TableGroups.{holds_pair, place_at, tokens_left}
use Rattle.quick_cache_containers.proofs.WalkedTokens.{count_by-passed, holds_pair-own}
use Rattle.quick_cache_containers.proofs.table.walk.position_of.Goals as goal

pub loop-position-init : goal.loop-position-init
loop-position-init c =
    record
    { still = c.requires.walk; places = refl; hash = refl; left = c.requires.all c.args.token }

-- the place that was met has another token
pub loop-position-preserved : goal.loop-position-preserved
loop-position-preserved c =
    let met : List Place → ℕ = λ places. (place_at places c.in-Some.position).token in
    let next = c.next_position.new.self in
    let some = c.in-Some.ensures.some in
    record {
      still = c.in-Some.ensures.walk;
      places = c.in-Some.ensures.places ∙ c.loop-position.invariant.places;
      hash = c.in-Some.ensures.hash ∙ c.loop-position.invariant.hash;
      left =
          count_by-passed (tokens_left c.loop-position.walk) (tokens_left next)
          (met c.loop-position.walk.places) c.args.token some.2
          (λ same. c.if-token.false
          (c.token.ensures ∙ ap met c.in-Some.ensures.places ∙ same))
          ∙ c.loop-position.invariant.left;
    }

pub returns-then-token-clause-found : goal.returns-then-token-clause-found
returns-then-token-clause-found c =
    let met : List Place → Place = λ places. place_at places c.in-Some.position in
    let some = c.in-Some.ensures.some in
    let token =
    ap (λ places. (met places).token) (sym c.in-Some.ensures.places) ∙ sym c.token.ensures
    ∙ c.if-token.true
    in
    let P : List Place → Type 0 =
    λ places. holds_pair c.args.walk.hash c.args.token (met places) ≡ true in
    subst P c.loop-position.invariant.places (holds_pair-own c.args.walk.hash c.args.token
    (met c.loop-position.walk.places) some.0 (some.1 ∙ c.loop-position.invariant.hash) token)
