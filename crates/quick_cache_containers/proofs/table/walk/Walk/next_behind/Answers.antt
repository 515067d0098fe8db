use Rattle.std.proofs.Common.{◌≡◌, ℕ, ◌+◌, ◌<◌, List, ◌∷◌, arith, subst, sym, ap, ◌∙◌}
use Rattle.quick_cache_containers.specs.Places.{Place}
use Rattle.quick_cache_containers.specs.declared.table.walk.Walk.{Walk}
use Rattle.quick_cache_containers.specs.TableGroups.{hash_at, place_at, tokens_left}
use Rattle.quick_cache_containers.proofs.WalkedTokens.{group-inside, reads_next_group, tokens_left-end}
use Rattle.quick_cache_containers.proofs.table.walk.Walk.next_behind.Goals as goal

pub lanes_of-self-requires : goal.lanes_of-self-requires
lanes_of-self-requires c = group-inside c.loop-self.self c.loop-self.invariant.walk (omega arith)

pub next_in_group-requires : goal.next_in_group-requires
next_in_group-requires c =
    (reads_next_group c.loop-self.self c.tag_of.result c.lanes_of-self.result
    c.loop-self.invariant.walk c.loop-self.invariant.read (omega arith) c.tag_of.ensures.value
    c.lanes_of-self.ensures).still

-- the pair that was met is the first of what was left
pub returns-in-Some-clause-some : goal.returns-in-Some-clause-some
returns-in-Some-clause-some c =
    let walk : Walk = c.loop-self.self in
    let reads =
    reads_next_group walk c.tag_of.result c.lanes_of-self.result c.loop-self.invariant.walk
    c.loop-self.invariant.read (omega arith) c.tag_of.ensures.value c.lanes_of-self.ensures in
    let met = c.in-Some.ensures.some in
    let place : List Place → Place = λ places. place_at places c.in-Some.position in
    let P : List Place → Type 0 = λ places.
    (0 < (place places).token) × (hash_at (place places) ≡ c.args.self.now.hash) ×
    (tokens_left c.args.self.now ≡ (place places).token ∷ tokens_left c.next_in_group.new.self) in
    subst P (ap (λ (walk : Walk). walk.places) c.loop-self.invariant.stays) (
      met.0,
      met.1 ∙ ap (λ (walk : Walk). walk.hash) c.loop-self.invariant.stays,
      sym
          c.loop-self.invariant.left ∙ reads.left ∙ met.2,
    )

pub returns-clause-none : goal.returns-clause-none
returns-clause-none c =
    sym c.loop-self.invariant.left ∙ tokens_left-end c.loop-self.self c.loop-self.invariant.read
    (omega arith)

-- the group had none
pub loop-self-preserved : goal.loop-self-preserved
loop-self-preserved c =
    let walk : Walk = c.loop-self.self in
    let reads =
    reads_next_group walk c.tag_of.result c.lanes_of-self.result c.loop-self.invariant.walk
    c.loop-self.invariant.read (omega arith) c.tag_of.ensures.value c.lanes_of-self.ensures in
    let new : Walk = c.next_in_group.new.self in
    let stays : new ≡ record c.args.self.now { step = walk.step + 1; lanes = new.lanes } =
    c.in_default.ensures.stays ∙ ap
    (λ (w : Walk). record w { step = walk.step + 1; lanes = new.lanes }) c.loop-self.invariant.stays
    in
    let P : ℕ → Type 0 = λ step. new ≡ record c.args.self.now { step = step; lanes = new.lanes } in
    record {
      walk = c.in_default.ensures.walk;
      read = c.in_default.ensures.read;
      stays = subst P (sym (ap (λ (w : Walk). w.step) stays)) stays;
      left = c.in_default.ensures.passed ∙ sym reads.left ∙ c.loop-self.invariant.left;
    }
