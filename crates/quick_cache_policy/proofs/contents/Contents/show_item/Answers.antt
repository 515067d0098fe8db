use Rattle.std.proofs.Common.{sym, ap, subst, ◌∙◌, refl}
use Rattle.std.specs.Int.NonZero.{non_zero_u32_get as number}
use Rattle.quick_cache_model.specs.CacheState.{Item}
use Rattle.quick_cache_store.specs.Lists.{Lists, FindsItem, with_value}
use Rattle.quick_cache_store.specs.Views.{items_of}
use Rattle.quick_cache_policy.specs.Contents.{IsSound}
use Rattle.quick_cache_model.specs.Callbacks.{Leaves}
use Rattle.quick_cache_store.specs.Shown.{MayBeShown}
use Rattle.quick_cache_policy.proofs.EnterLemmas.{state_with}
use Rattle.quick_cache_policy.proofs.ReferenceLemmas.{found-there, found-value, in_place, changed, written-sound}
use Rattle.quick_cache_policy.proofs.WrittenLemmas.{written-found}
use Rattle.quick_cache_policy.specs.Places.{places_of}
use Rattle.quick_cache_policy.proofs.PlaceLemmas.{places_of-change}
use Rattle.quick_cache_policy.proofs.contents.Contents.show_item.Goals as goal

-- the item of the token is the one that was found
pub show-requires-clause-callable : goal.show-requires-clause-callable
show-requires-clause-callable g c = λ item stood.
    let ticket_of = g.P.SharedPlaceholder.ticket_of in
    let contents = c.args.self.now in
    let stands_for = g.Q.Equivalent.equivalent c.args._query.now in
    let t = number c.args.token in
    let apart = c.facts.ensures.apart in
    let found = c.requires.found in
    subst (λ (i : Item g.row.K.Denot g.row.V.Denot). MayBeShown g.F.FnMut c.args.callback.now
    i.key i.value)
    (sym (found-value ticket_of contents apart t stands_for c.args.hash found item stood))
    (c.requires.callable found.stands.place (items_of found.stands.stands.before) found.item
    (items_of found.stands.stands.after)
    (found-there ticket_of contents apart t stands_for c.args.hash found))

-- the item that was shown is the one that was found
pub returns-clause-shows : goal.returns-clause-shows
returns-clause-shows g c =
    let ticket_of = g.P.SharedPlaceholder.ticket_of in
    let contents = c.args.self.now in
    let stands_for = g.Q.Equivalent.equivalent c.args._query.now in
    let t = number c.args.token in
    let apart = c.facts.ensures.apart in
    let found = c.requires.found in
    let shows = c.show.ensures in
    let same = found-value ticket_of contents apart t stands_for c.args.hash found shows.item
    shows.stood in
    record {
      item = found.item;
      left = shows.left;
      called = subst (λ (i : Item g.row.K.Denot g.row.V.Denot). Leaves g.F.FnMut
          c.args.callback.now i.key i.value c.show.result c.show.new.callback shows.left) same
          shows.called;
      place = found.stands.place;
      before = items_of found.stands.stands.before;
      after = items_of found.stands.stands.after;
      at = found-there ticket_of contents apart t stands_for c.args.hash found;
      rest = ap (state_with ticket_of contents) shows.rest
          ∙ in_place ticket_of contents apart t stands_for c.args.hash found shows.left;
    }

pub returns-clause-found : goal.returns-clause-found
returns-clause-found g c =
    let contents = c.args.self.now in
    let stands_for = g.Q.Equivalent.equivalent c.args._query.now in
    let t = number c.args.token in
    let found = c.requires.found in
    let shows = c.show.ensures in
    subst (λ (l : Lists _ _ _). FindsItem stands_for c.args.hash l t)
    (sym (shows.rest ∙ changed g.P.SharedPlaceholder.ticket_of contents c.facts.ensures.apart t
    stands_for c.args.hash found shows.left))
    (written-found stands_for c.args.hash contents.lists t found shows.left)

pub returns-clause-sound : goal.returns-clause-sound
returns-clause-sound g c = λ hashed sound.
    let ticket_of = g.P.SharedPlaceholder.ticket_of in
    let contents = c.args.self.now in
    let shows = c.show.ensures in
    subst (λ (l : Lists _ _ _). IsSound ticket_of g.K.PartialEq.eq hashed
    (record contents { lists = l })) (sym shows.rest)
    (written-sound ticket_of contents c.facts.ensures.apart (number c.args.token)
    (g.Q.Equivalent.equivalent c.args._query.now) c.args.hash c.requires.found shows.left
    g.K.PartialEq.eq hashed sound)

-- it is written where it stands
pub returns-clause-places : goal.returns-clause-places
returns-clause-places g c =
    ap (λ (l : Lists _ _ _). places_of l) c.show.ensures.rest
    ∙ places_of-change (number c.args.token) (with_value c.show.ensures.left) (λ item. refl)
    c.args.self.now.lists
