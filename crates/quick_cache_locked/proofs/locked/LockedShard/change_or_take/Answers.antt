use Rattle.std.proofs.Common.{refl}
use Rattle.std.specs.Fn.{FnOnceReturnsAt}
use Rattle.quick_cache_shard.specs.Steps.{goes_by}
use Rattle.quick_cache_shard.specs.StillUnder.{still_under}
use Rattle.quick_cache_locked.specs.Changes.{LeavesOf}
use Rattle.quick_cache_locked.proofs.ChangeLemmas.{MayBeAsked-fitting, changed-fits, looked_up-under, passed-query, taken-fits, taken-gives}
use Rattle.quick_cache_locked.proofs.ChangeLemmas.{written-by}
use Rattle.quick_cache_locked.proofs.locked.LockedShard.change_or_take.Goals as goal

-- the test is shown a value that fits
pub look_up_or_take-requires-clause-callable : goal.look_up_or_take-requires-clause-callable
look_up_or_take-requires-clause-callable g c =
    MayBeAsked-fitting g.L.Lifecycle.fits (g.Q.Equivalent.equivalent c.args.query.now)
    c.self.inside.shard.state c.self.invariant g.P.FnOnce c.args.test c.requires.tests

-- and the callback the one that passed
pub change-told-requires : goal.change-told-requires
change-told-requires g c =
    let test = g.Q.Equivalent.equivalent c.args.query.now in
    let answers = FnOnceReturnsAt g.P.FnOnce c.args.test in
    let value = c.in-Ok.ensures.looks_up.0 in
    let looks = c.in-Ok.ensures.looks_up.1.looks_up in
    c.requires.callable value
    (passed-query test answers c.self.inside.shard.state c.look_up_or_take.new.self.state value looks
    g.L.Lifecycle.fits c.self.invariant) looks.said c.value_mut.result
    (looked_up-under test answers c.self.inside.shard.state c.look_up_or_take.new.self.state value
    looks c.value_mut.result.now c.value_mut.ensures.value)

-- an item that was written is there
pub reweigh-requires-clause-there : goal.reweigh-requires-clause-there
reweigh-requires-clause-there g c =
    still_under (g.Q.Equivalent.equivalent c.args.query.now) c.change-told.new.arg2
    c.look_up_or_take.new.self.state c.in-Ok.ensures.there

-- what is left of it fits
pub invariant_of-self : goal.invariant_of-self
invariant_of-self g c =
    let test = g.Q.Equivalent.equivalent c.args.query.now in
    let answers = FnOnceReturnsAt g.P.FnOnce c.args.test in
    let old = c.self.inside.shard in
    let mid = c.look_up_or_take.new.self in
    let value = c.in-Ok.ensures.looks_up.0 in
    let looks = c.in-Ok.ensures.looks_up.1.looks_up in
    let asked = passed-query test answers old.state mid.state value looks g.L.Lifecycle.fits
    c.self.invariant in
    changed-fits test answers old.state mid.state value looks g.L.Lifecycle.fits
    (LeavesOf g.F.FnOnce c.args.change) c.requires.leaves c.change-told.result
    c.change-told.new.arg2
    (record {
      shown = c.value_mut.result;
      shows = looked_up-under test answers old.state mid.state value looks
          c.value_mut.result.now c.value_mut.ensures.value;
      left_by = _;
      called = c.change-told.ensures;
      leaves = refl;
    }) c.value_mut.result.now c.value_mut.ensures.value _ c.reweigh.new.self.state
    (written-by
    (goes_by g.K.Hash.hash_input g.We.Weighter g.B.BuildHasher g.B.Hasher.Hasher g.L.Lifecycle)
    test g.K.PartialEq.eq (g.met.Q.Equivalent.same_key c.args.query.now) old mid
    c.in-Ok.ensures.looks_up.1.work c.look_up_or_take.ensures.sound.valid
    (asked.key, asked.stands) c.change-told.new.arg2 c.reweigh.new.self.state
    c.reweigh.ensures.reweighs) c.self.invariant

pub invariant_of-self-in-Err-1 : goal.invariant_of-self-in-Err-1
invariant_of-self-in-Err-1 g c =
    taken-fits g.L.Lifecycle.fits (g.Q.Equivalent.equivalent c.args.query.now)
    c.self.inside.shard.state c.self.invariant (FnOnceReturnsAt g.P.FnOnce c.args.test)
    c.look_up_or_take.new.self.state c.in-Err.taken c.in-Err.ensures.looks_up.looks_up

-- the value that passed was looked up, written and weighed
pub returns-in-Ok-clause-changes : goal.returns-in-Ok-clause-changes
returns-in-Ok-clause-changes g c =
    let test = g.Q.Equivalent.equivalent c.args.query.now in
    let answers = FnOnceReturnsAt g.P.FnOnce c.args.test in
    let old = c.self.inside.shard in
    let mid = c.look_up_or_take.new.self in
    let value = c.in-Ok.ensures.looks_up.0 in
    let looks = c.in-Ok.ensures.looks_up.1.looks_up in
    let asked = passed-query test answers old.state mid.state value looks g.L.Lifecycle.fits
    c.self.invariant in
    rw (← c.self.view_is) (record {
      value = value;
      mid = mid.state;
      looks_up = looks;
      left = c.change-told.new.arg2;
      changed = record {
        shown = c.value_mut.result;
        shows = looked_up-under test answers old.state mid.state value looks
            c.value_mut.result.now c.value_mut.ensures.value;
        left_by = _;
        called = c.change-told.ensures;
        leaves = refl;
      };
      writes = written-by
          (goes_by g.K.Hash.hash_input g.We.Weighter g.B.BuildHasher g.B.Hasher.Hasher
          g.L.Lifecycle) test g.K.PartialEq.eq
          (g.met.Q.Equivalent.same_key c.args.query.now) old mid
          c.in-Ok.ensures.looks_up.1.work c.look_up_or_take.ensures.sound.valid
          (asked.key, asked.stands) c.change-told.new.arg2 c.reweigh.new.self.state
          c.reweigh.ensures.reweighs;
    })

-- what is told was told of it
pub returns-in-Ok-clause-told : goal.returns-in-Ok-clause-told
returns-in-Ok-clause-told g c =
    let test = g.Q.Equivalent.equivalent c.args.query.now in
    let answers = FnOnceReturnsAt g.P.FnOnce c.args.test in
    let old = c.self.inside.shard in
    let mid = c.look_up_or_take.new.self in
    let value = c.in-Ok.ensures.looks_up.0 in
    let looks = c.in-Ok.ensures.looks_up.1.looks_up in
    let asked = passed-query test answers old.state mid.state value looks g.L.Lifecycle.fits
    c.self.invariant in
    record {
      key = asked.key;
      value = value;
      left = c.change-told.new.arg2;
      stands = asked.stands;
      fits_key = asked.fits_key;
      passed = looks.said;
      changed = record {
        shown = c.value_mut.result;
        shows = looked_up-under test answers old.state mid.state value looks
            c.value_mut.result.now c.value_mut.ensures.value;
        left_by = _;
        called = c.change-told.ensures;
        leaves = refl;
      };
    }

pub returns-in-Ok-clause-places : goal.returns-in-Ok-clause-places
returns-in-Ok-clause-places g c =
    rw (← c.self.view_is)
    (λ place has. c.in-Ok.ensures.looks_up.1.places place (c.reweigh.ensures.places place has))

-- what was taken out fits
pub returns-in-Err-clause-fits : goal.returns-in-Err-clause-fits
returns-in-Err-clause-fits g c =
    taken-gives g.L.Lifecycle.fits (g.Q.Equivalent.equivalent c.args.query.now)
    c.self.inside.shard.state c.self.invariant (FnOnceReturnsAt g.P.FnOnce c.args.test)
    c.look_up_or_take.new.self.state c.in-Err.taken c.in-Err.ensures.looks_up.looks_up

pub returns-in-Err-clause-places : goal.returns-in-Err-clause-places
returns-in-Err-clause-places g c = rw (← c.self.view_is) c.in-Err.ensures.looks_up.places
