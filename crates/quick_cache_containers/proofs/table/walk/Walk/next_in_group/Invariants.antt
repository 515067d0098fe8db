use Rattle.std.proofs.Common.{◌≡◌}
use Rattle.quick_cache_containers.specs.TableGroups.{IsWalk, tokens_left}
use Rattle.quick_cache_containers.proofs.table.walk.Walk.next_in_group.Given as goal

-- other lanes are left of the group, and the same tokens
abbrev pub invariant-loop-self : goal.invariant-loop-self
invariant-loop-self l = record {
  walk : IsWalk l.self;
  stays : l.self ≡ record l.fn.self { lanes = l.self.lanes };
  left : tokens_left l.self ≡ tokens_left l.fn.self;
}

abbrev pub decreases-loop-self : goal.decreases-loop-self
decreases-loop-self l = l.self.lanes
