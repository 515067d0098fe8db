use Rattle.std.proofs.Common.{◌∙◌, refl, sym, ap}
use Rattle.std.specs.Int.NonZero.{non_zero_u32_get as number}
use Rattle.quick_cache_store.specs.Lists.{HeldItem, with_value}
use Rattle.quick_cache_policy.specs.Contents.{state_of}
use Rattle.quick_cache_policy.proofs.PlaceLemmas.{places_of-change}
use Rattle.quick_cache_policy.proofs.ReferenceLemmas.{written-state, written-sound}
use Rattle.quick_cache_shard.specs.TokenValues.{with_value_of}
use Rattle.quick_cache_policy.specs.Places.{places_of}
use Rattle.quick_cache_shard.proofs.PlaceLemmas.{HasItem-place, HasItem-resident, place-item}
use Rattle.quick_cache_shard.proofs.ReferenceLemmas.{found-single}
use Rattle.quick_cache_shard.proofs.TokenLemmas.{key_at-some, key_at-there, found-at}
use Rattle.quick_cache_shard.proofs.shard.CacheShard.value_at_mut.Goals as goal

pub value_mut-requires : goal.value_mut-requires
value_mut-requires g c =
    let taken = key_at-some (number c.args.token) (places_of c.self.inside.contents.lists)
    (rw (← c.self.view_is) at c.requires.there) in
    place-item c.self.inside.contents.lists (number c.args.token) taken.0 taken.1

-- whatever value is written
pub invariant_of-self-lent : goal.invariant_of-self-lent
invariant_of-self-lent g c w =
    let contents = c.self.inside.contents in
    let token = number c.args.token in
    let taken = key_at-some (number c.args.token) (places_of c.self.inside.contents.lists)
    (rw (← c.self.view_is) at c.requires.there) in
    let stands_for = g.K.PartialEq.eq taken.0 in
    let found = found-at contents.lists token taken.0 taken.1 stands_for
    (g.met.K.Eq.laws.refl taken.0) in
    written-sound g.P.SharedPlaceholder.ticket_of contents c.facts.ensures.apart token stands_for
    found.0 found.1 w g.K.PartialEq.eq _ c.self.invariant

pub returns : goal.returns
returns g c =
    let ticket_of = g.P.SharedPlaceholder.ticket_of in
    let contents = c.self.inside.contents in
    let token = number c.args.token in
    let taken = key_at-some (number c.args.token) (places_of c.self.inside.contents.lists)
    (rw (← c.self.view_is) at c.requires.there) in
    let equal = g.K.PartialEq.eq in
    let stands_for = equal taken.0 in
    let found = found-at contents.lists token taken.0 taken.1 stands_for
    (g.met.K.Eq.laws.refl taken.0) in
    let single = found-single ticket_of contents c.facts.ensures.apart token stands_for found.0
    found.1 equal
    (λ first second one two. sym (g.met.K.Eq.laws.congr taken.0 first second one) ∙ two) _
    c.self.invariant in
    let at = key_at-there contents.lists token taken.0 taken.1 c.facts.ensures.apart in
    let is = c.value_mut.ensures.value in
    let held : HeldItem g.row.K.Denot g.row.V.Denot =
    record { token = token; hash = is.1.0; item = is.0 } in (
      (
        refl,
        λ w. rw (← c.self.view_is)
            (λ i. record {
              state = (written-state ticket_of contents c.facts.ensures.apart token stands_for
                  found.0 found.1 w single
                  ∙ ap (λ o. with_value_of equal o w (state_of ticket_of contents)) (sym at)) i;
              places = places_of-change token (with_value w) (λ i. refl) contents.lists i;
              weigher = c.self.inside.terms.weigher;
              builder = c.self.inside.terms.builder;
              lifecycle = c.self.inside.terms.lifecycle;
              room = contents.lists.room;
              work = record { advances = contents.advances; visits = contents.visits };
            }),
      ),
      record {
        writes_back = tt;
        value = rw (← c.self.view_is) (
          is.0,
          record {
            place = HasItem-place contents.lists held is.1.1;
            there = HasItem-resident contents.lists held is.1.1;
          },
          is.2,
        );
      },
    )
