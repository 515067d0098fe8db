use Rattle.std.proofs.Common.{◌≡◌, ◌+◌, ◌<◌, ℕ, List, ◌∷◌, length, get_or, bit_xor, arith, subst, sym, ap, ◌∙◌}
use Rattle.quick_cache_index.specs.declared.index.walk.Walk.{Walk}
use Rattle.quick_cache_index.specs.IndexGroups.{candidates_left}
use Rattle.quick_cache_index.proofs.WalkedTokens.{looks_at_lane, behind_lane, lane_position, reads_next_group}
use Rattle.quick_cache_index.proofs.index.walk.Walk.next_tagged.Goals as goal

-- the next group is read
pub loop-self-preserved : goal.loop-self-preserved
loop-self-preserved c =
    let walk : Walk = c.loop-self.self in
    let reads =
    reads_next_group walk c.tag_of.result c.lanes_of-self.result c.loop-self.invariant.walk
    (omega arith) (omega arith) c.tag_of.ensures.value c.lanes_of-self.ensures in
    record {
      walk = reads.still;
      stays =
          ap (λ (w : Walk). record w {
            group = bit_xor walk.home (walk.step + 1);
            step = walk.step + 1;
            lanes = c.lanes_of-self.result;
          })
          c.loop-self.invariant.stays;
      left = sym reads.candidates ∙ c.loop-self.invariant.left;
    }

pub returns-clause-walk : goal.returns-clause-walk
returns-clause-walk c =
    (looks_at_lane c.loop-self.self c.loop-self.invariant.walk (omega arith)).still

pub returns-clause-within : goal.returns-clause-within
returns-clause-within c =
    let looks = looks_at_lane c.loop-self.self c.loop-self.invariant.walk (omega arith) in
    omega
    (arith, looks.inside, ap (λ (walk : Walk). length walk.tokens.now) c.loop-self.invariant.stays)

-- the token of the lowest lane is the first of what was left
pub returns-clause-some : goal.returns-clause-some
returns-clause-some c =
    let walk : Walk = c.loop-self.self in
    let looks = looks_at_lane walk c.loop-self.invariant.walk (omega arith) in
    let token : List ℕ → ℕ = λ tokens. get_or tokens (lane_position walk) 0 in
    let P : List ℕ → Type 0 = λ tokens.
    (0 < token tokens)
    × (candidates_left c.args.self.now ≡ token tokens ∷ candidates_left (behind_lane walk)) in
    subst P (ap (λ (walk : Walk). walk.tokens.now) c.loop-self.invariant.stays)
    (looks.taken, sym c.loop-self.invariant.left ∙ looks.candidate)
