use Rattle.std.proofs.Common.{rules, subst}
use Rattle.quick_cache_model.specs.Hooks.{Rules}
use Rattle.quick_cache_shard.specs.References.{with_value_under, ReweighsUnder}
use Rattle.quick_cache_shard.specs.Steps.{goes_by, rules_in}
use Rattle.quick_cache_unsync.specs.Touches.{no_touches}
use Rattle.quick_cache_unsync.proofs.ReferenceLemmas.{sets-final, sets-nothing}
use Rattle.quick_cache_unsync.proofs.lent.writes_through.set.Goals as goal

-- the reference stands under the key, in a cache that goes by the same rules
pub returns-in-Some-clause-sets : goal.returns-in-Some-clause-sets
returns-in-Some-clause-sets g c =
    let e = c.in-Some.ensures in
    let r = c.in-Some.reference in
    let by = rules_in (goes_by g.K.Hash.hash_input g.We.Weighter g.B.BuildHasher g.B.Hasher.Hasher
    g.L.Lifecycle) no_touches in
    let equal = g.K.PartialEq.eq in
    sets-final (by c.args.cache.now) (equal c.args.key.now) c.args.value c.cache-1.given.0
    c.drop-reference.new.self.0 (search rules) c.args.cache.now.state r.cache.now.state
    e.looks_up.0 e.looks_up.1 (e.sound.valid.one_entry_a_key c.args.key.now)
    (subst (λ (x : g.row.K.Denot × Rules g.row.K.Denot g.row.V.Denot).
    ReweighsUnder (equal x.0) x.1 (with_value_under (equal x.0) c.args.value r.cache.now.state)
    c.drop-reference.new.self.0.state) (λ i. (e.query i, by (e.same i)))
    c.drop-reference.ensures.reweighs)

pub returns-in-None-clause-sets : goal.returns-in-None-clause-sets
returns-in-None-clause-sets g c =
    let rests = rw c.in-None.is at c.get_mut.follows.holds-at-none in
    sets-nothing _ (g.K.PartialEq.eq c.args.key.now) c.args.value c.args.cache.now.state _ rests.0
