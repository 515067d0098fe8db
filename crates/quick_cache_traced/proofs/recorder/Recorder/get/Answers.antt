use Rattle.std.proofs.Common.{◌∷◌, [], ◌++◌, ◌∙◌, ap}
use Rattle.quick_cache_model.specs.declared.calls.reply.Reply.{Reply}
use Rattle.quick_cache_traced.specs.declared.call.TraceCall.{TraceCall}
use Rattle.quick_cache_traced.specs.Recorded.{Recorded}
use Rattle.quick_cache_traced.proofs.StepLemmas.{LooksUp-seen, gets}
use Rattle.quick_cache_traced.proofs.KeptLemmas.{goes_on}
use Rattle.quick_cache_traced.proofs.recorder.Recorder.get.Goals as goal

-- the look-up is a step, which the new entry shows
pub invariant_of-self-2 : goal.invariant_of-self-2
invariant_of-self-2 g c =
    let inside = c.self.inside in
    let old : Recorded _ _ _ _ _ _ = record {
      cache = inside.cache;
      options = inside.options;
      entries = inside.entries.items;
      calls = inside.calls.total;
    } in
    let sees = c.in_ok-answer.ensures.sees in
    let new = c.get.follows.lender-at-none in
    goes_on _ g.L.RequestState.Default.is_default g.K.PartialEq.eq g.K.Clone.is_clone
    g.V.Clone.is_clone old c.self.invariant new new.state inside.cache.places inside.cache.room
    inside.cache.work
    c.get.follows.holds-at-none.1 c.note.new.entries.items c.note.new.calls.total
    (TraceCall.Get c.in-Ok.kept, Reply.Value c.in_ok-answer.shown)
    (c.note.ensures.entries
    ∙ ap (λ list. list ++ (TraceCall.Get c.in-Ok.kept, Reply.Value c.in_ok-answer.shown) ∷ [])
    c.reserve.ensures.items)
    c.note.ensures.calls
    (gets _ g.K.PartialEq.eq g.K.Clone.is_clone g.V.Clone.is_clone
    _ g.L.RequestState.Default.is_default inside.cache.state
    new.state c.args.key.now c.in-Ok.kept sees.found c.in_ok-answer.shown
    c.in-Ok.ensures.cases
    (LooksUp-seen (g.K.PartialEq.eq c.args.key.now) inside.cache.state (λ item. item.value)
    (c.in_ok-answer.ensures.sound.valid.one_entry_a_key c.args.key.now) sees.sees
    c.get.follows.holds-at-none.0)
    sees.shows_other)

pub returns-clause-gets : goal.returns-clause-gets
returns-clause-gets g c =
    let sees = c.in_ok-answer.ensures.sees in
    rw (← c.self.view_is) (record {
      found = sees.found;
      kept = c.in-Ok.kept;
      shown = c.in_ok-answer.shown;
      looks = LooksUp-seen (g.K.PartialEq.eq c.args.key.now) c.self.inside.cache.state
          (λ item. item.value)
          (c.in_ok-answer.ensures.sound.valid.one_entry_a_key c.args.key.now) sees.sees
          c.get.follows.holds-at-none.0;
      answers = sees.shows_one;
      records = sees.shows_other;
      is_key = c.in-Ok.ensures.cases;
      added = c.note.ensures.entries
          ∙ ap (λ list. list ++ (TraceCall.Get c.in-Ok.kept, Reply.Value c.in_ok-answer.shown) ∷ [])
          c.reserve.ensures.items;
    })

pub returns-clause-counts : goal.returns-clause-counts
returns-clause-counts g c = rw (← c.self.view_is) (record {
  entry = (TraceCall.Get c.in-Ok.kept, Reply.Value c.in_ok-answer.shown);
  added = c.note.ensures.entries
      ∙ ap (λ list. list ++ (TraceCall.Get c.in-Ok.kept, Reply.Value c.in_ok-answer.shown) ∷ [])
      c.reserve.ensures.items;
  counted = c.note.ensures.calls;
  at_seat = c.note.ensures.seat;
})
