use Rattle.std.proofs.Common.{true, refl, sym, ap, subst, ◌∙◌}
use Rattle.std.specs.Int.NonZero.{non_zero_u32_get as number}
use Rattle.quick_cache_model.specs.CacheState.{Item}
use Rattle.quick_cache_model.specs.Removal.{pair_of}
use Rattle.quick_cache_store.specs.Lists.{Lists, IsEntry}
use Rattle.quick_cache_store.proofs.lists.StandingLemmas.{not-loading, not-ghost}
use Rattle.quick_cache_policy.specs.Contents.{IsSound}
use Rattle.quick_cache_policy.proofs.LookupLemmas.{item-sound}
use Rattle.quick_cache_policy.proofs.contents.Contents.take_item.Goals as goal

-- what has the token of an item is an item
pub unreachable-requires : goal.unreachable-requires
unreachable-requires g c =
    not-loading c.args.self.now.lists c.facts.ensures.apart (number c.args.token)
    c.take-slot.result.hash c.take-slot.result.entry c.take-slot.ensures.taken _
    c.requires.1 c.requires.2 c.in-Loading.field-0 c.in-Loading.is

pub unreachable-requires-in-Ghost : goal.unreachable-requires-in-Ghost
unreachable-requires-in-Ghost g c =
    not-ghost c.args.self.now.lists c.facts.ensures.apart (number c.args.token)
    c.take-slot.result.hash c.take-slot.result.entry c.take-slot.ensures.taken _
    c.requires.1 c.requires.2 c.in-Ghost.is

pub returns-clause-takes : goal.returns-clause-takes
returns-clause-takes g c =
    let contents = c.args.self.now in
    let t = number c.args.token in
    record {
      item = _;
      stood = (
        c.take-slot.result.hash,
        subst (λ entry. IsEntry contents.lists t c.take-slot.result.hash entry) c.in-Item.is
            c.take-slot.ensures.taken,
      );
      gives = c.into_pair.ensures ∙ ap (λ (i : Item _ _). pair_of i) c.in-Item.item-is;
      rest = λ i. record contents { lists = c.take-slot.ensures.rest i };
    }

pub returns-clause-sound : goal.returns-clause-sound
returns-clause-sound g c = λ hashed sound.
    let ticket_of = g.P.SharedPlaceholder.ticket_of in
    let contents = c.args.self.now in
    subst (λ (l : Lists _ _ _). IsSound ticket_of g.K.PartialEq.eq hashed
    (record contents { lists = l })) (sym c.take-slot.ensures.rest)
    (item-sound ticket_of contents c.facts.ensures.apart (λ key. true) 0 (number c.args.token) _
    c.requires.1 c.requires.2 g.K.PartialEq.eq refl hashed sound)
