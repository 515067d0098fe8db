use Rattle.std.proofs.Common.{[], ◌∷◌, refl, sym, ap, subst, ◌∙◌, arith, Bool, length}
use Rattle.std.proofs.lemmas.List.{length-append}
use Rattle.std.specs.Prelude.{All}
use Rattle.quick_cache_model.specs.Answered.{AreAnswered}
use Rattle.quick_cache_runs.specs.Room.{AreInRoom}
use Rattle.quick_cache_model.proofs.RunLemmas.{IsRun-append, no_calls, took_one, took_all}
use Rattle.quick_cache_shard.specs.Copies.{ClonesAreEqual}
use Rattle.quick_cache_shard.specs.Lifecycles.{hooks_by}
use Rattle.quick_cache_shard.specs.Shard.{Shard}
use Rattle.quick_cache_shard.specs.Steps.{goes_by, rules_in}
use Rattle.quick_cache_unsync.specs.Touches.{no_touches}
use Rattle.quick_cache_runs.specs.Asked.{IfAsks, IfLoads, IsAskedAs}
use Rattle.quick_cache_runs.specs.Made.{IsMade, IsRunBy}
use Rattle.quick_cache_runs.proofs.RunLemmas.{All-next, AreAnswered-push, AreAnswered-none, AreInRoom-push, AreInRoom-none}
use Rattle.quick_cache_runs.proofs.calls.CallMaker.make_all.Goals as goal

-- before the first call, and with room for all replies
pub loop-call-init : goal.loop-call-init
loop-call-init g c = record {
  split = sym c.into_iter-call-iterator.ensures.into_iter_gives.0;
  run = λ steady answers asked. no_calls _ g.K.PartialEq.eq g.K.Clone.is_clone g.V.Clone.is_clone
      answers (hooks_by g.L.Lifecycle c.args.cache.now.lifecycle) c.args.cache.now.state
      c.args.state.now c.args.replies.items c.requires.none;
  same = refl;
  left = omega (
    arith,
    c.into_iter-call-iterator.ensures.into_iter_gives.1,
    ap length
        c.into_iter-call-iterator.ensures.into_iter_gives.0,
  );
  as_many = ap length (sym c.requires.none);
  spared = omega (arith);
  asks = λ keys values. AreInRoom-none {F = g.row.F.Denot} c.args.cache.now.room []
      c.args.replies.items c.requires.none;
  answered = λ always. AreAnswered-none {F = g.row.F.Denot} [] c.args.replies.items
      c.requires.none;
  room = omega (
    arith,
    c.requires.room,
    ap length c.requires.none,
    c.args.replies.ok,
    c.into_iter-call-iterator.ensures.into_iter_gives.1,
  );
}

-- the next call may be made
pub make-requires-clause-callable : goal.make-requires-clause-callable
make-requires-clause-callable g c =
    All-next (IfAsks (goal.F-IsAlwaysCallable g)) c.args.calls.items c.loop-call.yielded _ _
    c.in-Some.call c.loop-call.invariant.split c.in-Some.ensures.steps.0 c.requires.callable

pub make-requires-clause-keys : goal.make-requires-clause-keys
make-requires-clause-keys g c =
    All-next (IfLoads (ClonesAreEqual g.K.PartialEq.eq g.K.Clone.is_clone)) c.args.calls.items
    c.loop-call.yielded _ _ c.in-Some.call c.loop-call.invariant.split c.in-Some.ensures.steps.0
    c.requires.keys

-- one call more
pub loop-call-preserved : goal.loop-call-preserved
loop-call-preserved g c =
    let i = c.loop-call.invariant in
    let call = c.in-Some.call in
    let told = c.make.ensures.made in
    let X = Shard g.row.K.Denot g.row.V.Denot g.row.We.Denot g.row.B.Denot g.row.L.Denot in
    let rules = λ (x : X). rules_in (goes_by g.K.Hash.hash_input g.We.Weighter g.B.BuildHasher
    g.B.Hasher.Hasher g.L.Lifecycle) no_touches x in
    let made = λ (steady : g.L.Lifecycle.steady c.args.cache.now.lifecycle)
    (answers : g.row.F.Denot → g.row.K.Denot → g.row.V.Denot → Bool)
    (asked : All (IsAskedAs g.F.Fn answers) c.args.calls.items).
    subst (λ (x : X). IsMade (rules x) g.K.PartialEq.eq g.K.Clone.is_clone g.V.Clone.is_clone answers
    (hooks_by g.L.Lifecycle x.lifecycle) c.loop-call.cache.state c.loop-call.state call told.0
    c.make.new.cache.state c.make.new.state) i.same
    (told.2
    (subst (λ (x : X). g.L.Lifecycle.steady x.lifecycle) (sym i.same) steady) answers
    (All-next (IsAskedAs g.F.Fn answers) c.args.calls.items c.loop-call.yielded _ _ call i.split
    c.in-Some.ensures.steps.0 asked)) in
    record {
      split = took_one c.args.calls.items c.loop-call.yielded _ _ call i.split
          c.in-Some.ensures.steps.0;
      run = λ steady answers asked.
          let one = made steady answers asked in
          rw told.1
          (IsRun-append (rules c.args.cache.now) g.K.PartialEq.eq g.K.Clone.is_clone
          g.V.Clone.is_clone answers (hooks_by g.L.Lifecycle c.args.cache.now.lifecycle)
          c.args.cache.now.state c.args.state.now c.loop-call.yielded c.loop-call.replies.items
          c.loop-call.cache.state c.loop-call.state (i.run steady answers asked)
          call told.0 one.calls c.make.new.cache.state c.make.new.state one.step one.runs);
      same = c.make.ensures.same ∙ ap
          (λ (x : X). record x {
            state = c.make.new.cache.state;
            places = c.make.new.cache.places;
            room = c.make.new.cache.room;
            work = c.make.new.cache.work;
          }) i.same;
      left = omega (arith, i.left, ap length c.in-Some.ensures.steps.0, c.in-Some.ensures.steps.1);
      as_many = omega (
        arith,
        i.as_many,
        length-append c.loop-call.yielded (call ∷ []),
        length-append c.loop-call.replies.items (told.0 ∷ []),
        ap length told.1,
      );
      spared = omega (
        arith,
        i.spared,
        c.make.ensures.room,
        length-append c.loop-call.yielded (call ∷ []),
      );
      asks = λ keys values. rw told.1
          (AreInRoom-push c.args.cache.now.room c.loop-call.cache.room c.loop-call.yielded
          c.loop-call.replies.items call told.0 i.as_many i.spared (i.asks keys values)
          (told.4 keys values));
      answered = λ always. rw told.1
          (AreAnswered-push c.loop-call.yielded c.loop-call.replies.items call told.0
          i.as_many (i.answered always) (told.3 always));
      room = omega (
        arith,
        i.room,
        c.in-Some.ensures.steps.1,
        c.make.ensures.len,
        c.make.ensures.capacity,
      );
    }

-- no call is left, so all were made
pub returns-clause-runs : goal.returns-clause-runs
returns-clause-runs g c = λ steady answers asked.
    let i = c.loop-call.invariant in
    subst (λ made. IsRunBy (goes_by g.K.Hash.hash_input g.We.Weighter g.B.BuildHasher
    g.B.Hasher.Hasher g.L.Lifecycle) g.K.PartialEq.eq g.K.Clone.is_clone g.V.Clone.is_clone answers
    c.args.cache.now c.args.state.now made c.loop-call.replies.items c.loop-call.cache
    c.loop-call.state)
    (took_all c.args.calls.items c.loop-call.yielded _ i.split
    (sym i.left ∙ c.in-None.ensures.steps.0)) (i.run steady answers asked)

pub returns-clause-answered : goal.returns-clause-answered
returns-clause-answered g c = λ always.
    let i = c.loop-call.invariant in
    subst (λ made. AreAnswered made c.loop-call.replies.items)
    (took_all c.args.calls.items c.loop-call.yielded _ i.split
    (sym i.left ∙ c.in-None.ensures.steps.0)) (i.answered always)

pub returns-clause-asks : goal.returns-clause-asks
returns-clause-asks g c = λ keys values.
    let i = c.loop-call.invariant in
    subst (λ made. AreInRoom c.args.cache.now.room made c.loop-call.replies.items)
    (took_all c.args.calls.items c.loop-call.yielded _ i.split
    (sym i.left ∙ c.in-None.ensures.steps.0)) (i.asks keys values)
