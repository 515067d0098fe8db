use Rattle.quick_cache_locked.proofs.EntryFits.{AnswersEntry-fits, AnswersEntry-chosen, AnswersEntry-gives, AnswersEntry-tells}
use Rattle.quick_cache_locked.proofs.EntryFits.{AnswersEntry-uncalled}
use Rattle.quick_cache_locked.proofs.FitWrites.{IsItemAt-fits}
use Rattle.quick_cache_locked.proofs.LoadLemmas.{AnswersEntry-refusal, IfErr-is, RefusesLoad-load}
use Rattle.quick_cache_locked.proofs.locked.LockedShard.act_on.Goals as goal

-- the value of the item under the query fits its key
pub entry_or_placeholder-requires-clause-callable : goal.entry_or_placeholder-requires-clause-callable
entry_or_placeholder-requires-clause-callable g c = λ place before item after there.
    c.requires.callable item.key item.value there.passes
    (IsItemAt-fits g.L.Lifecycle.fits (g.Q.Equivalent.equivalent c.args.query.now)
    c.self.inside.shard.state place before item after there c.self.invariant)

-- what the callback leaves fits, and the other values stay as they were
pub invariant_of-self : goal.invariant_of-self
invariant_of-self g c =
    AnswersEntry-fits g.L.Lifecycle.fits g.F.FnMut _ (g.Q.Equivalent.equivalent c.args.query.now)
    c.args.callback.now c.self.inside.shard.state c.requires.leaves _ _ _
    c.entry_or_placeholder.result _ _ c.entry_or_placeholder.ensures.answers c.self.invariant

pub returns-clause-fits : goal.returns-clause-fits
returns-clause-fits g c =
    AnswersEntry-gives g.L.Lifecycle.fits g.F.FnMut _
    (g.Q.Equivalent.equivalent c.args.query.now) c.args.callback.now c.self.inside.shard.state
    c.requires.leaves _ _ _ c.entry_or_placeholder.result _ _ c.entry_or_placeholder.ensures.answers
    c.self.invariant

pub returns-clause-tells : goal.returns-clause-tells
returns-clause-tells g c =
    AnswersEntry-tells g.F.FnMut _ (g.Q.Equivalent.equivalent c.args.query.now)
    c.args.callback.now c.self.inside.shard.state _ _ _ g.L.Lifecycle.fits
    c.entry_or_placeholder.result _ _
    c.entry_or_placeholder.ensures.answers c.self.invariant

pub returns-clause-uncalled : goal.returns-clause-uncalled
returns-clause-uncalled g c =
    AnswersEntry-uncalled g.F.FnMut _ (g.Q.Equivalent.equivalent c.args.query.now)
    c.args.callback.now c.self.inside.shard.state _ _ _ c.entry_or_placeholder.result _ _
    c.entry_or_placeholder.ensures.answers

-- the call is the shard's own
pub returns-clause-acts : goal.returns-clause-acts
returns-clause-acts g c =
    rw (← c.self.view_is)
    (rw c.hash-hash.ensures at c.entry_or_placeholder.ensures.answers)

pub returns-clause-places : goal.returns-clause-places
returns-clause-places g c = rw (← c.self.view_is) c.entry_or_placeholder.ensures.places

pub returns-clause-chosen : goal.returns-clause-chosen
returns-clause-chosen g c =
    AnswersEntry-chosen g.F.FnMut _ (g.Q.Equivalent.equivalent c.args.query.now)
    c.args.callback.now c.self.inside.shard.state _ _ _ g.L.Lifecycle.fits
    c.self.invariant
    c.entry_or_placeholder.result _ _ c.entry_or_placeholder.ensures.answers

-- and it is refused as a load is
pub returns-clause-refuses : goal.returns-clause-refuses
returns-clause-refuses g c =
    rw (← c.self.view_is)
    (AnswersEntry-refusal (g.Q.Equivalent.equivalent c.args.query.now) c.self.inside.shard.state
    g.F.FnMut _ c.args.callback.now _ _ _ c.entry_or_placeholder.result _ _
    c.entry_or_placeholder.ensures.answers)

pub returns-clause-refused : goal.returns-clause-refused
returns-clause-refused g c =
    IfErr-is _ _ (RefusesLoad-load (g.Q.Equivalent.equivalent c.args.query.now)
    c.self.inside.shard.state) c.entry_or_placeholder.result
    (AnswersEntry-refusal (g.Q.Equivalent.equivalent c.args.query.now) c.self.inside.shard.state
    g.F.FnMut _ c.args.callback.now _ _ _ c.entry_or_placeholder.result _ _
    c.entry_or_placeholder.ensures.answers)
