use Rattle.std.proofs.Common.{◌≡◌, ℕ, true, is_some, sym, subst}
use Rattle.std.specs.Int.NonZero.{non_zero_u32_get as number}
use Rattle.quick_cache_shard.specs.TokenValues.{key_at}
use Rattle.quick_cache_shard.proofs.TokenLemmas.{some-key_at}
use Rattle.quick_cache_shard.proofs.shard.CacheShard.peek_token_mut.Goals as goal

-- the item that was seen has the token
pub invariant_of-result : goal.invariant_of-result
invariant_of-result g c =
    let shown = c.in-Some.ensures.shown in
    let places = c.args.self.now.places in
    record {
      named = c.get.ensures.nonzero;
      there = subst (λ (n : ℕ). is_some (key_at n places) ≡ true) (sym c.get.ensures.value)
          (some-key_at (number c.args.token) shown.0.key places shown.1.place);
    }
