use Rattle.std.proofs.Common.{◌∷◌, [], ◌++◌, ◌∙◌, ap}
use Rattle.quick_cache_model.specs.declared.calls.reply.Reply.{Reply}
use Rattle.quick_cache_traced.specs.declared.call.TraceCall.{TraceCall}
use Rattle.quick_cache_traced.specs.Recorded.{Recorded}
use Rattle.quick_cache_traced.proofs.StepLemmas.{removes, Removes-shown}
use Rattle.quick_cache_traced.proofs.KeptLemmas.{goes_on}
use Rattle.quick_cache_traced.proofs.recorder.Recorder.remove.Goals as goal

-- the removal is a step, which the new entry shows
pub invariant_of-self-2 : goal.invariant_of-self-2
invariant_of-self-2 g c =
    let inside = c.self.inside in
    let old : Recorded _ _ _ _ _ _ = record {
      cache = inside.cache;
      options = inside.options;
      entries = inside.entries.items;
      calls = inside.calls.total;
    } in
    let new = c.remove-pair.new.self in
    goes_on _ g.L.RequestState.Default.is_default g.K.PartialEq.eq g.K.Clone.is_clone
    g.V.Clone.is_clone old c.self.invariant new new.state new.places new.room inside.cache.work
    c.remove-pair.ensures.same
    c.note.new.entries.items c.note.new.calls.total
    (TraceCall.Remove c.in-Ok.kept, Reply.Pair c.remove-pair.result)
    (c.note.ensures.entries
    ∙ ap (λ list. list ++ (TraceCall.Remove c.in-Ok.kept, Reply.Pair c.remove-pair.result) ∷ [])
    c.reserve.ensures.items)
    c.note.ensures.calls
    (removes _ g.K.PartialEq.eq g.K.Clone.is_clone g.V.Clone.is_clone
    _ g.L.RequestState.Default.is_default inside.cache.state
    new.state c.args.key.now c.in-Ok.kept c.remove-pair.result c.in-Ok.ensures.cases
    c.remove-pair.ensures.removes)

pub returns-clause-removes : goal.returns-clause-removes
returns-clause-removes g c =
    rw (← c.self.view_is) (record {
      pair = c.remove-pair.result;
      kept = c.in-Ok.kept;
      removes = c.remove-pair.ensures.removes;
      answers = Removes-shown (g.K.PartialEq.eq c.args.key.now) c.self.inside.cache.state
          (c.in_ok-shown.ensures.sound.valid.one_entry_a_key c.args.key.now)
          g.K.Clone.is_clone g.V.Clone.is_clone _ c.remove-pair.result c.in_ok-shown.shown
          c.remove-pair.new.self.state c.in_ok-shown.ensures.sees c.remove-pair.ensures.removes;
      is_key = c.in-Ok.ensures.cases;
      added = c.note.ensures.entries
          ∙ ap (λ list. list ++ (TraceCall.Remove c.in-Ok.kept, Reply.Pair c.remove-pair.result)
          ∷ [])
          c.reserve.ensures.items;
    })

pub returns-clause-counts : goal.returns-clause-counts
returns-clause-counts g c = rw (← c.self.view_is) (record {
  entry = (TraceCall.Remove c.in-Ok.kept, Reply.Pair c.remove-pair.result);
  added = c.note.ensures.entries
      ∙ ap (λ list. list ++ (TraceCall.Remove c.in-Ok.kept, Reply.Pair c.remove-pair.result) ∷ [])
      c.reserve.ensures.items;
  counted = c.note.ensures.calls;
  at_seat = c.note.ensures.seat;
})
