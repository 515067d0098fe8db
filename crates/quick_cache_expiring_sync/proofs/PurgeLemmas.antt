-- Purges of shards, from what a predicate answered.
use Rattle.std.proofs.Common.{ℕ, Bool, Option}
use Rattle.quick_cache_model.specs.declared.terms.lifecycle.Lifecycle as lifecycle
use Rattle.quick_cache_model.specs.CacheState.{CacheState}
use Rattle.quick_cache_model.proofs.EachElement.{all-weaker}
use Rattle.quick_cache_model.proofs.OrderLaws.{UpToOrder-map}
use Rattle.quick_cache_shard.specs.Predicates.{RemovesAsked}
use Rattle.quick_cache_shard.specs.Shard.{Shard}
use Rattle.quick_cache_locked.specs.Locked.{FromSome}
use Rattle.quick_cache_sync.specs.Answers.{RetainsAskedSo}
use Rattle.quick_cache_sync.specs.Sums.{AddsUp}
use Rattle.quick_cache_sync.proofs.AskedLemmas.{RetainsAsked-says}
use Rattle.quick_cache_expiring_sync.proofs.LookLemmas.{FromSome-map}

module _ {K V : Type 0} (first second : K → V → Bool → Type 0)
    (says : (key : K) (value : V) (answer : Bool) → first key value answer
    → second key value answer) where
  -- so of each shard
  pub AddsUp-says : {We B L S : Type 0} (life : lifecycle.Ghosts L K V S) (equal : K → K → Bool)
      (shards total : ℕ)
      → AddsUp life equal (λ (shard : Shard K V We B L) gone. RetainsAskedSo first shard.state gone)
      shards total
      → AddsUp life equal (λ (shard : Shard K V We B L) gone. RetainsAskedSo second shard.state gone)
      shards total
  AddsUp-says {We} {B} {L} {S} life equal shards total adds = record {
    numbers = adds.numbers;
    one_each = adds.one_each;
    each = all-weaker
        (λ gone. FromSome life equal
        (λ (shard : Shard K V We B L). RetainsAskedSo first shard.state gone))
        (λ gone. FromSome life equal
        (λ (shard : Shard K V We B L). RetainsAskedSo second shard.state gone))
        (λ gone some. FromSome-map life equal
        (λ (shard : Shard K V We B L). RetainsAskedSo first shard.state gone)
        (λ (shard : Shard K V We B L). RetainsAskedSo second shard.state gone)
        (λ shard so. record {
          new = so.new;
          step = UpToOrder-map _ _ so.new (λ state. RetainsAsked-says first second says shard.state state) so.step;
          counts = so.counts;
        }) some) adds.numbers adds.each;
    adds = adds.adds;
  }

-- so of one that is asked for alone
pub RemovesAsked-says : {K V : Type 0} (test : K → Bool) (first second : V → Bool → Type 0)
    (says : (value : V) (answer : Bool) → first value answer → second value answer)
    (old : CacheState K V) (answer : Option (K × V)) (new : CacheState K V)
    → RemovesAsked test old first answer new → RemovesAsked test old second answer new
RemovesAsked-says test first second says old _ _
    (RemovesAsked.goes place before item after at said) =
    RemovesAsked.goes place before item after at (says item.value _ said)
RemovesAsked-says test first second says old _ _
    (RemovesAsked.stays place before item after at said) =
    RemovesAsked.stays place before item after at (says item.value _ said)
RemovesAsked-says test first second says old _ _ (RemovesAsked.absent none) =
    RemovesAsked.absent none
