use Rattle.std.proofs.Common.{◌≡◌, ◌<◌, List, ◌∷◌, length, arith, subst, sym, ap, ◌∙◌}
use Rattle.quick_cache_containers.specs.Places.{Place}
use Rattle.quick_cache_containers.specs.declared.table.walk.Walk.{Walk}
use Rattle.quick_cache_containers.specs.TableGroups.{hash_at, place_at, tokens_left}
use Rattle.quick_cache_containers.proofs.TurnedLanes.{turned_lowest}
use Rattle.quick_cache_containers.proofs.WalkedTokens.{looks_at_lane, behind_lane, lane_position}
use Rattle.quick_cache_containers.proofs.table.walk.Walk.next_in_group.Goals as goal

pub overflow_mul-position : goal.overflow_mul-position
overflow_mul-position c =
    let looks = looks_at_lane c.loop-self.self c.loop-self.invariant.walk (omega arith) in
    omega (arith, looks.inside, c.loop-self.invariant.walk.short)

pub overflow_add-position : goal.overflow_add-position
overflow_add-position c =
    let looks = looks_at_lane c.loop-self.self c.loop-self.invariant.walk (omega arith) in
    omega (arith, looks.inside, c.loop-self.invariant.walk.short)

pub hash-requires : goal.hash-requires
hash-requires c =
    (looks_at_lane c.loop-self.self c.loop-self.invariant.walk (omega arith)).inside

pub returns-then-hash-self-clause-walk : goal.returns-then-hash-self-clause-walk
returns-then-hash-self-clause-walk c =
    let walk : Walk = c.loop-self.self in
    rw (turned_lowest walk.lanes (omega arith) (omega (arith, c.loop-self.invariant.walk.few)))
    (looks_at_lane walk c.loop-self.invariant.walk (omega arith)).still

pub returns-then-hash-self-clause-within : goal.returns-then-hash-self-clause-within
returns-then-hash-self-clause-within c =
    let looks = looks_at_lane c.loop-self.self c.loop-self.invariant.walk (omega arith) in
    omega
    (arith, looks.inside, ap (λ (walk : Walk). length walk.places) c.loop-self.invariant.stays)

-- the token of the place that was looked at is the first of what was left
pub returns-then-hash-self-clause-some : goal.returns-then-hash-self-clause-some
returns-then-hash-self-clause-some c =
    let walk : Walk = c.loop-self.self in
    let looks = looks_at_lane walk c.loop-self.invariant.walk (omega arith) in
    let place : List Place → Place = λ places. place_at places (lane_position walk) in
    let same : hash_at (place walk.places) ≡ walk.hash =
    sym c.hash.ensures ∙ c.if-hash-self.true in
    let turned = turned_lowest walk.lanes (omega arith)
    (omega (arith, c.loop-self.invariant.walk.few)) in
    let P : List Place → Type 0 = λ places.
    (0 < (place places).token) × (hash_at (place places) ≡ c.args.self.now.hash) ×
    (tokens_left c.args.self.now ≡ (place places).token ∷ tokens_left (behind_lane walk)) in
    rw turned (subst P (ap (λ (walk : Walk). walk.places) c.loop-self.invariant.stays) (
      looks.taken,
      same ∙ ap (λ (walk : Walk). walk.hash) c.loop-self.invariant.stays,
      sym
          c.loop-self.invariant.left ∙ looks.take same,
    ))

-- a place with the tag and another hash is passed over
pub loop-self-preserved : goal.loop-self-preserved
loop-self-preserved c =
    let walk : Walk = c.loop-self.self in
    let looks = looks_at_lane walk c.loop-self.invariant.walk (omega arith) in
    record {
      walk = looks.still;
      stays = ap behind_lane c.loop-self.invariant.stays;
      left =
          sym (looks.skip (λ same. c.if-hash-self.false (c.hash.ensures ∙ same))) ∙
          c.loop-self.invariant.left;
    }
