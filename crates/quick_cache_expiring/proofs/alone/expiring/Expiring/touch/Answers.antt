use Rattle.std.proofs.Common.{rules, refl}
use Rattle.quick_cache_shard.specs.Steps.{goes_by}
use Rattle.quick_cache_shard.proofs.TestLemmas.{PassesTest-weaker}
use Rattle.quick_cache_expiring.specs.contracts.by_value.ByValueWeighterLasting.TheImpl.{ghosts}
use Rattle.quick_cache_expiring.proofs.EntryLemmas.{Gets-dropped, Renews-written, keys_by-one}
use Rattle.quick_cache_expiring.proofs.alone.expiring.Expiring.touch.Goals as goal

-- the reference stands under the query, and the value that was there is left with the new end
pub returns-in-Ok : goal.returns-in-Ok
returns-in-Ok g c =
    let e = c.in-Ok.ensures in
    let r = c.in-Ok.lasting in
    let test = g.Q.Equivalent.equivalent c.args.query.now in
    record {
      touches = rw (← c.self.view_is, ← c.end_of-until.ensures)
          (Renews-written g.Q.Equivalent.equivalent
          (goes_by g.K.Hash.hash_input
          (ghosts g.row.K g.row.V g.row.We g.We.Weighter g.We.Weighter-dict) g.B.BuildHasher
          g.B.Hasher.Hasher g.L.Lifecycle) c.args.now c.end_of-until.result _ _
          c.args.query.now r.query.now e.query r.cache.now e.looks_up.1.same
          (keys_by-one test g.K.PartialEq.eq (g.met.Q.Equivalent.same_key c.args.query.now)
          r.cache.now.state e.sound.valid)
          e.looks_up.0 (PassesTest-weaker test _ _ (λ lasting said told. search rules) _ _ _ e.looks_up.1.looks_up)
          c.deref_mut.result.now c.deref_mut.ensures.value
          c.drop.new.self.0 (search rules) c.drop.ensures.reweighs c.drop.ensures.same refl);
    }

-- none serves
pub returns : goal.returns
returns g c =
    let looks = rw c.in-Err.is at c.get_mut_or_drop.follows.holds-at-none in
    record {
      touches = rw (← c.self.view_is, c.count_over.ensures)
          (Gets-dropped (g.Q.Equivalent.equivalent c.args.query.now) c.args.now _
          (λ lasting said told. search rules) _ _ looks.0 c.in-Err.miss looks.2 looks.1 refl);
    }
