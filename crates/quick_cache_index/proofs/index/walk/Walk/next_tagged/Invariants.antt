use Rattle.std.proofs.Common.{◌≡◌, ◌-◌}
use Rattle.quick_cache_index.specs.IndexGroups.{IsWalk, reach_of, candidates_left}
use Rattle.quick_cache_index.proofs.index.walk.Walk.next_tagged.Given as goal

-- another group may be read, and the same candidates are left
abbrev pub invariant-loop-self : goal.invariant-loop-self
invariant-loop-self l = record {
  walk : IsWalk l.self;
  stays : l.self ≡ record l.fn.self {
    group = l.self.group;
    step = l.self.step;
    lanes = l.self.lanes;
  };
  left : candidates_left l.self ≡ candidates_left l.fn.self;
}

abbrev pub decreases-loop-self : goal.decreases-loop-self
decreases-loop-self l = reach_of l.self - l.self.step
