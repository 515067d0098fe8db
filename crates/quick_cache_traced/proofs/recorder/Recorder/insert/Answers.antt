use Rattle.std.proofs.Common.{◌∷◌, [], ◌++◌, ◌∙◌, ap}
use Rattle.quick_cache_model.specs.declared.calls.reply.Reply.{Reply}
use Rattle.quick_cache_traced.specs.declared.call.TraceCall.{TraceCall}
use Rattle.quick_cache_traced.specs.Recorded.{Recorded}
use Rattle.quick_cache_traced.proofs.StepLemmas.{inserts}
use Rattle.quick_cache_traced.proofs.KeptLemmas.{goes_on, stays}
use Rattle.quick_cache_traced.proofs.recorder.Recorder.insert.Goals as goal

-- the cache refused the pair and has its state
pub invariant_of-self-in_err-insert : goal.invariant_of-self-in_err-insert
invariant_of-self-in_err-insert g c =
    let inside = c.self.inside in
    let old : Recorded _ _ _ _ _ _ = record {
      cache = inside.cache;
      options = inside.options;
      entries = inside.entries.items;
      calls = inside.calls.total;
    } in
    let new = c.insert.new.self in
    rw c.reserve.ensures.items
    (stays _ g.L.RequestState.Default.is_default g.K.PartialEq.eq g.K.Clone.is_clone
    g.V.Clone.is_clone old c.self.invariant new new.state new.places new.room new.work
    c.insert.ensures.same
    c.in_err-insert.ensures.inserts.does.unchanged)

-- the insert is a step, which the new entry shows
pub invariant_of-self-2 : goal.invariant_of-self-2
invariant_of-self-2 g c =
    let inside = c.self.inside in
    let old : Recorded _ _ _ _ _ _ = record {
      cache = inside.cache;
      options = inside.options;
      entries = inside.entries.items;
      calls = inside.calls.total;
    } in
    let new = c.insert.new.self in
    let done = c.in_ok-insert.ensures.inserts in
    let is_key = c.clone-kept.ensures.cases in
    let is_value = c.clone-copy.ensures.cases in
    goes_on _ g.L.RequestState.Default.is_default g.K.PartialEq.eq g.K.Clone.is_clone
    g.V.Clone.is_clone old c.self.invariant new new.state new.places new.room new.work
    c.insert.ensures.same
    c.note.new.entries.items c.note.new.calls.total
    (TraceCall.Insert c.in-Ok-Ok.kept c.in-Ok-Ok.copy, Reply.Done)
    (c.note.ensures.entries
    ∙ ap (λ list. list ++ (TraceCall.Insert c.in-Ok-Ok.kept c.in-Ok-Ok.copy, Reply.Done) ∷ [])
    c.reserve.ensures.items)
    c.note.ensures.calls
    (inserts _ g.K.PartialEq.eq g.K.Clone.is_clone g.V.Clone.is_clone
    _ g.L.RequestState.Default.is_default inside.cache.state
    new.state (g.L.Lifecycle.steady inside.cache.lifecycle) c.self.invariant.steady c.args.key
    c.in-Ok-Ok.kept c.args.value c.in-Ok-Ok.copy (rw c.in-Ok-Ok.is-0 at is_key)
    (rw c.in-Ok-Ok.is-1 at is_value) done.first done.last done.begins done.does)

pub returns-clause-notes : goal.returns-clause-notes
returns-clause-notes g c =
    let is_key = c.clone-kept.ensures.cases in
    let is_value = c.clone-copy.ensures.cases in
    rw (← c.self.view_is) (record {
      kept = c.in-Ok-Ok.kept;
      copy = c.in-Ok-Ok.copy;
      is_key = rw c.in-Ok-Ok.is-0 at is_key;
      is_value = rw c.in-Ok-Ok.is-1 at is_value;
      added = c.note.ensures.entries
          ∙ ap (λ list. list ++ (TraceCall.Insert c.in-Ok-Ok.kept c.in-Ok-Ok.copy, Reply.Done) ∷ [])
          c.reserve.ensures.items;
    })

pub returns-clause-counts : goal.returns-clause-counts
returns-clause-counts g c = rw (← c.self.view_is) (record {
  entry = (TraceCall.Insert c.in-Ok-Ok.kept c.in-Ok-Ok.copy, Reply.Done);
  added = c.note.ensures.entries
      ∙ ap (λ list. list ++ (TraceCall.Insert c.in-Ok-Ok.kept c.in-Ok-Ok.copy, Reply.Done) ∷ [])
      c.reserve.ensures.items;
  counted = c.note.ensures.calls;
  at_seat = c.note.ensures.seat;
})
