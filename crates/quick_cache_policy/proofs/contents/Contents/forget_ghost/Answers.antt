use Rattle.std.proofs.Common.{sym, ap, ◌∙◌, refl}
use Rattle.std.specs.Int.NonZero.{non_zero_u32_get as number}
use Rattle.quick_cache_store.specs.Lists.{Lists}
use Rattle.quick_cache_store.specs.Views.{hashes_of}
use Rattle.quick_cache_store.proofs.lists.OneEntryLemmas.{without-first_ghost}
use Rattle.quick_cache_policy.proofs.VictimLemmas.{hashes_of-drop}
use Rattle.quick_cache_policy.proofs.contents.Contents.forget_ghost.Goals as goal

-- the oldest ghost alone goes
pub returns-clause-ghosts : goal.returns-clause-ghosts
returns-clause-ghosts g c =
    let lists = c.args.self.now.lists in
    let rest = c.in-Some.ensures.1 in
    ap (λ (l : Lists _ _ _). hashes_of l.ghosts)
    (c.forget_first.ensures ∙ without-first_ghost lists c.facts.ensures.apart c.in-Some.ensures.0 rest
    (number c.in-Some.oldest) c.in-Some.ensures.2 c.in-Some.ensures.3)
    ∙ hashes_of-drop 1 lists.ghosts rest c.in-Some.ensures.0 c.in-Some.ensures.2 refl

pub returns-clause-same : goal.returns-clause-same
returns-clause-same g c =
    let contents = c.args.self.now in
    let lists = contents.lists in
    let is = c.forget_first.ensures ∙ without-first_ghost lists c.facts.ensures.apart
    c.in-Some.ensures.0 c.in-Some.ensures.1 (number c.in-Some.oldest) c.in-Some.ensures.2
    c.in-Some.ensures.3 in
    ap (λ (l : Lists _ _ _). record contents { lists = l })
    (is ∙ sym (ap (λ (l : Lists _ _ _). record lists
    { ghosts = l.ghosts; next = l.next; room = l.room }) is))
