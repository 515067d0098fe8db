use Rattle.std.proofs.Common.{rules, arith, map-id, refl}
use Rattle.std.proofs.lemmas.Grind.{common_steps}
use Rattle.std.proofs.lemmas.Iterator.Consumers.{YieldsList-end}
use Rattle.std.proofs.lemmas.Iterator.Adapters.{YieldsList-from_vec}
use Rattle.quick_cache_loading.proofs.RowLaws.{one_guard, at_most_one}
use Rattle.quick_cache_loading.proofs.ScheduleLaws.{LoadingRun-push, LoadingRun-guards, LoadingRun-shows, LoadingRun-none_joins}
use Rattle.quick_cache_loading.proofs.ScheduleLaws.{LoadingRun-alone, LoadingRun-stays}
use Rattle.quick_cache_loading.proofs.protocol.run.Goals as goal

-- One more event is one more step of the schedule.
pub loop-event-preserved : goal.loop-event-preserved
loop-event-preserved g c = record {
  steps =
      rw c.push_reserved.ensures.items (LoadingRun-push g.V.Clone.is_clone _ _ _ _ _ _ _
      c.loop-event.invariant.steps c.step.ensures.step);
  count = grind (arith, common_steps);
  room = grind (arith, common_steps);
}

-- At the loop's end all events were made, so each law of schedules holds of them.
pub returns : goal.returns
returns g c =
    let end =
    YieldsList-end (YieldsList-from_vec {s = c.into_iter-event-iterator.result}
    c.args.events.items (search rules) (search rules))
    c.loop-event.yielded c.loop-event.event-iterator c.loop-event.yielded_by c.next.result
    c.next.new.self c.in-None.is c.next.ensures.steps in
    let steps = rw (simp map-id at end.0) at c.loop-event.invariant.steps in
    record {
      run = steps;
      answered = search rules;
      guards = LoadingRun-guards g.V.Clone.is_clone _ _ _ _ steps;
      one_guard = one_guard c.loop-event.core;
      at_most_one = at_most_one c.loop-event.core;
      shows = LoadingRun-shows g.V.Clone.is_clone _ _ _ _ steps;
      none_joins = LoadingRun-none_joins g.V.Clone.is_clone _ _ _ _ steps;
      alone = λ n. LoadingRun-alone g.V.Clone.is_clone _ _ _ _ steps n _ (λ did. did);
      stays = λ n. LoadingRun-stays g.V.Clone.is_clone _ _ _ _ steps n _ (λ did. did);
      succeeds = λ clones none. refl;
      unchanged = tt;
      refused = tt;
    }
