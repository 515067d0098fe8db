use Rattle.std.proofs.Common.{◌≡◌, ◌-◌}
use Rattle.quick_cache_containers.specs.TableGroups.{IsWalk, reach_of, tokens_left}
use Rattle.quick_cache_containers.proofs.table.walk.Walk.next_behind.Given as goal

-- the group is read, and the same tokens are left
abbrev pub invariant-loop-self : goal.invariant-loop-self
invariant-loop-self l = record {
  walk : IsWalk l.self;
  read : l.self.lanes ≡ 0;
  stays : l.self ≡ record l.fn.self { step = l.self.step; lanes = l.self.lanes };
  left : tokens_left l.self ≡ tokens_left l.fn.self;
}

abbrev pub decreases-loop-self : goal.decreases-loop-self
decreases-loop-self l = reach_of l.self - l.self.step
