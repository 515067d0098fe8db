use Rattle.std.proofs.Common.{◌≡◌, ℕ, true, is_some, subst}
use Rattle.quick_cache_shard.specs.TokenValues.{key_at}
use Rattle.quick_cache_shard.proofs.by_token.token_mut.TokenMut.drop.Goals as goal

-- the item stands at its token still
pub invariant_of-self : goal.invariant_of-self
invariant_of-self g c = record {
  named = c.args.self.named;
  there = subst (λ (n : ℕ). is_some (key_at n c.reweigh_at.new.self.places) ≡ true)
      c.token_of.ensures c.reweigh_at.ensures.there;
}
