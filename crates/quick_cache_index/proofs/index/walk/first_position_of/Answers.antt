use Rattle.std.proofs.Common.{arith}
use Rattle.quick_cache_index.proofs.GroupLanes.{trailing_zeros-lt}
use Rattle.quick_cache_index.proofs.WalkedTokens.{looks_at_lane}
use Rattle.quick_cache_index.proofs.index.walk.first_position_of.Goals as goal

pub bounds-tokens-position : goal.bounds-tokens-position
bounds-tokens-position c = (looks_at_lane c.args.walk.now c.requires (omega arith)).inside

pub returns-then-tokens-position-clause-within : goal.returns-then-tokens-position-clause-within
returns-then-tokens-position-clause-within c =
    (looks_at_lane c.args.walk.now c.requires (omega arith)).inside

pub returns-then-tokens-position-clause-here : goal.returns-then-tokens-position-clause-here
returns-then-tokens-position-clause-here c =
    let lane = trailing_zeros-lt c.args.walk.now.lanes (omega arith) c.requires.few in
    omega (arith, lane)
