-- Sums over the shards that were asked so far.
use Rattle.std.proofs.Common.{◌≡◌, ℕ, ◌+◌, ◌-◌, ◌^◌, Bool, ◌∷◌, min, arith}
use Rattle.std.proofs.lemmas.List.Sums.{sum_by-cons}
use Rattle.quick_cache_model.specs.declared.terms.lifecycle.Lifecycle as lifecycle
use Rattle.quick_cache_shard.specs.Shard.{Shard}
use Rattle.quick_cache_locked.specs.Locked.{FromSome}
use Rattle.quick_cache_sync.specs.Sums.{AddsUp}

module _ {K V We B L S : Type 0} (life : lifecycle.Ghosts L K V S) (equal : K → K → Bool)
    (answers : Shard K V We B L → ℕ → Type 0) where
  -- one more was asked
  pub AddsUp-more : (shards total number next : ℕ) → AddsUp life equal answers shards total
      → FromSome life equal (λ shard. answers shard number)
      → next ≡ min (total + number) (2 ^ 64 - 1)
      → AddsUp life equal answers (shards + 1) next
  AddsUp-more shards total number next asked some more = record {
    numbers = number ∷ asked.numbers;
    one_each = omega (arith, asked.one_each);
    each = (some, asked.each);
    adds = omega (arith, asked.adds, more, sum_by-cons (λ x. x) number asked.numbers);
  }
