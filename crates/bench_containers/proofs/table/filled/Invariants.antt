use Rattle.std.proofs.Common.{◌≡◌, ◌+◌, ◌<◌, ◌≤◌, ℕ, false, length}
use Rattle.quick_cache_containers.specs.Table.{has_pair}
use Rattle.bench_containers.proofs.table.filled.Given as goal

-- there is room for the hashes to come, and their tokens are new
abbrev pub invariant-loop-hash : goal.invariant-loop-hash
invariant-loop-hash l = record {
  counted : l.count ≡ l.hash-index;
  room : length l.hashes ≤ l.table.room + l.hash-index;
  is_new : (h k : ℕ) → l.hash-index < k → has_pair l.table h k ≡ false;
}
