use Rattle.std.proofs.Common.{ℕ, subst}
use Rattle.quick_cache_shard.specs.TokenValues.{IsValueOf}
use Rattle.quick_cache_shard.proofs.by_token.token_mut.TokenMutDeref.deref.Goals as goal

pub returns : goal.returns
returns g c = subst
    (λ (n : ℕ). IsValueOf c.args.self.now.shard.now n c.value_at.result.now)
    c.token_of.ensures c.value_at.ensures
