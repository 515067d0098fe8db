use Rattle.std.proofs.Common.{◌≡◌, ◌-◌, ◌≤◌, drop, length, min}
use Rattle.quick_cache_store.specs.Views.{hashes_of}
use Rattle.quick_cache_policy.proofs.contents.Contents.forget_ghosts.Given as goal

abbrev pub invariant-loop-self : goal.invariant-loop-self
invariant-loop-self g l = record {
  rest : hashes_of l.self.lists.ghosts
      ≡ drop (length l.initial.self.lists.ghosts - length l.self.lists.ghosts)
      (hashes_of l.initial.self.lists.ghosts);
  fewer : length l.self.lists.ghosts ≤ length l.initial.self.lists.ghosts;
  enough : min l.initial.self.ghost_limit (length l.initial.self.lists.ghosts)
      ≤ length l.self.lists.ghosts;
  room : l.initial.self.lists.room ≤ l.self.lists.room;
  same : l.self ≡ record l.initial.self {
    lists = record l.initial.self.lists {
      ghosts = l.self.lists.ghosts;
      next = l.self.lists.next;
      room = l.self.lists.room;
    };
  };
}

abbrev pub decreases-loop-self : goal.decreases-loop-self
decreases-loop-self g l = length l.self.lists.ghosts
