use Rattle.quick_cache_policy.specs.Predicates.{Answers}
use Rattle.quick_cache_shard.specs.WalksFrom.{number_or_zero}
use Rattle.quick_cache_shard.proofs.TakesWantedLemmas.{TakesWanted-first}
use Rattle.quick_cache_shard.proofs.shard.CacheShard.take_next_if.Goals as goal

-- the item that was found is there
pub returns-in_err-key-clause-takes : goal.returns-in_err-key-clause-takes
returns-in_err-key-clause-takes g c =
    let first = c.in_ok-token.ensures.finds in
    absurd (c.in_err-key.ensures.leaves.0 first.0.key first.1.stands.place)

-- and goes
pub returns-clause-takes : goal.returns-clause-takes
returns-clause-takes g c =
    let first = c.in_ok-token.ensures.finds in
    TakesWanted-first (Answers g.F.Fn c.args.wanted.now) (number_or_zero c.args.after)
    c.args.self.now g.K.PartialEq.eq g.met.K.Eq.laws.refl c.facts.ensures c.in_ok-token.token
    first.0 first.1 c.remove_token.new.self (c.in_ok-key.key, c.in_ok-key.value)
    c.in_ok-key.ensures.takes c.in_ok-key.ensures.leaves
