use Rattle.std.proofs.Common.{◌≡◌, ◌+◌, ◌≤◌, ℕ, length, map}
use Rattle.quick_cache_store.specs.Pool.{times}
use Rattle.quick_cache_index.specs.Index.{HasToken}
use Rattle.quick_cache_store.specs.Sound.{AddsTokens}
use Rattle.quick_cache_store.proofs.lists.store.key_all.Given as goal

-- the entries that are left can be keyed, and then all were
abbrev pub invariant-loop-token : goal.invariant-loop-token
invariant-loop-token g l = record {
  room : l.index.room + length l.fn.entries ≡ l.fn.index.room + length l.token-iterator;
  once : (token : ℕ) → times token (map (λ entry. entry.0) l.token-iterator) ≤ 1;
  apart : (token : ℕ) → HasToken l.index token
      → times token (map (λ entry. entry.0) l.token-iterator) ≡ 0;
  adds : (last : _) → AddsTokens l.token-iterator l.index last
      → AddsTokens l.fn.entries l.fn.index last;
}
