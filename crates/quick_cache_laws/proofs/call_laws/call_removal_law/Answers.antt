use Rattle.std.proofs.Common.{ap, ◌∙◌}
use Rattle.quick_cache_model.specs.declared.calls.reply.Reply.{Reply}
use Rattle.quick_cache_laws.proofs.CallWrites.{equal_both}
use Rattle.quick_cache_laws.proofs.StepParts.{remove_of, retain_of}
use Rattle.quick_cache_laws.proofs.call_laws.call_removal_law.Goals as goal

pub returns-clause-removes : goal.returns-clause-removes
returns-clause-removes g c = λ hash weight pinned answers old mid new key first second calls more
    valid one two.
    let a = remove_of _ _ _ _ answers old key first calls mid one in
    let b = remove_of _ _ _ _ answers mid key second more new two in
    b.1 ∙ ap Reply.Pair (c.removal_law.ensures.again _ (hash key) old mid new a.0 b.0
    (equal_both _ g.met.K.Eq.laws key) valid a.2 b.2)

pub returns-clause-retains : goal.returns-clause-retains
returns-clause-retains g c = λ hash weight pinned answers old mid new keep first second calls more
    one two.
    c.removal_law.ensures.retains_again (answers keep) old mid new
    (retain_of _ _ _ _ answers old keep first calls mid one)
    (retain_of _ _ _ _ answers mid keep second more new two)
