use Rattle.std.proofs.Common.{arith}
use Rattle.quick_cache_shard.specs.Predicates.{MayBeAsked}
use Rattle.quick_cache_shard.proofs.RetainSomeLemmas.{asked-left}
use Rattle.quick_cache_unsync.proofs.walking.extracting.ExtractIfIterator.next.Goals as goal

-- the token is above the last one, and the items that are left were there
pub returns-clause-goes : goal.returns-clause-goes
returns-clause-goes g c =
    let taken = c.in_ok-token.ensures.takes in
    let can = asked-left (MayBeAsked g.F.Fn c.args.self.now.wanted) c.args.self.now.cache.now.state
    c.take_next_if.new.self.state (c.in_ok-token.key, c.in_ok-token.value) taken.takes c.requires in
    record {
      on = λ finite. (can, finite, omega (arith, taken.first.above, c.get-number.ensures));
      keeps = can;
      rests = λ _. tt;
    }
