use Rattle.std.proofs.Common.{◌≡◌, ◌+◌, ◌≤◌, vec_len, vec_capacity}
use Rattle.quick_cache_history.proofs.recorded.Recorded.new.Given as goal

-- so many shards are made, each with the next word, and there is room for the rest
abbrev pub invariant-loop-number : goal.invariant-loop-number
invariant-loop-number g l = record {
  len : vec_len l.places ≡ l.number;
  room : l.sizes.shards ≤ vec_capacity l.places;
  book : l.pens.book ≡ g.J.Naming.book;
  next : l.pens.next ≡ l.number;
  left : l.pens.left + l.number ≡ l.sizes.shards;
}
