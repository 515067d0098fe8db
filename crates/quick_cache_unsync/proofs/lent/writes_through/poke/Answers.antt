use Rattle.std.proofs.Common.{rules, ap, subst}
use Rattle.quick_cache_shard.specs.References.{with_value_under, ReweighsUnder}
use Rattle.quick_cache_shard.specs.Shard.{Shard}
use Rattle.quick_cache_shard.specs.Steps.{goes_by, rules_in}
use Rattle.quick_cache_unsync.specs.Touches.{no_touches}
use Rattle.quick_cache_unsync.proofs.ReferenceLemmas.{pokes-final, unwritten}
use Rattle.quick_cache_unsync.proofs.lent.writes_through.poke.Goals as goal

-- the reference stands under the key, in the cache as it was
pub returns-in-Some-clause-writes : goal.returns-in-Some-clause-writes
returns-in-Some-clause-writes g c =
    let e = c.in-Some.ensures in
    let by = rules_in (goes_by g.K.Hash.hash_input g.We.Weighter g.B.BuildHasher g.B.Hasher.Hasher
    g.L.Lifecycle) no_touches in
    let equal = g.K.PartialEq.eq in
    pokes-final (by c.args.cache.now) (equal c.args.key.now) c.args.value c.cache-1.given.0
    c.drop-reference.new.self.0 (search rules) c.args.cache.now.state
    (e.sound.valid.one_entry_a_key c.args.key.now)
    (subst (λ (x : g.row.K.Denot × Shard g.row.K.Denot g.row.V.Denot g.row.We.Denot
    g.row.B.Denot g.row.L.Denot).
    ReweighsUnder (equal x.0) (by x.1) (with_value_under (equal x.0) c.args.value x.1.state)
    c.drop-reference.new.self.0.state) (λ i. (e.query i, e.same i))
    c.drop-reference.ensures.reweighs)

pub returns-in-None-clause-writes : goal.returns-in-None-clause-writes
returns-in-None-clause-writes g c =
    let rests = rw c.in-None.is at c.peek_mut.follows.holds-at-none in
    unwritten _ (g.K.PartialEq.eq c.args.key.now) c.args.value c.args.cache.now.state _
    c.in-None.ensures.absent
    (ap (λ (x : Shard g.row.K.Denot g.row.V.Denot g.row.We.Denot g.row.B.Denot g.row.L.Denot).
    x.state) rests)
