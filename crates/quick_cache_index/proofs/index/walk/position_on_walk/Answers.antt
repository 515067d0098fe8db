use Rattle.std.proofs.Common.{get_or, ap, ◌∙◌}
use Rattle.quick_cache_index.specs.IndexGroups.{candidates_left}
use Rattle.quick_cache_index.proofs.WalkedTokens.{count_by-passed}
use Rattle.quick_cache_index.proofs.index.walk.position_on_walk.Goals as goal

-- the place that was met has another token
pub loop-position-preserved : goal.loop-position-preserved
loop-position-preserved c =
    let next = c.next_tagged.new.self in
    let some = c.in-Some.ensures.some in
    record {
      still = c.in-Some.ensures.walk;
      tokens = c.in-Some.ensures.tokens ∙ c.loop-position.invariant.tokens;
      left =
          count_by-passed (candidates_left c.loop-position.walk) (candidates_left next)
          (get_or c.loop-position.walk.tokens.now c.in-Some.position 0) c.args.token some.1
          (λ same. c.if-tokens-position.false
          (ap (λ tokens. get_or tokens.now c.in-Some.position 0) c.in-Some.ensures.tokens ∙ same))
          ∙ c.loop-position.invariant.left;
    }
