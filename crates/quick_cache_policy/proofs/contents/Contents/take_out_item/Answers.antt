use Rattle.std.proofs.Common.{rules, [], ◌∷◌, refl, sym, ap, subst, ◌∙◌, inl, arith}
use Rattle.std.specs.Int.NonZero.{non_zero_u32_get as number}
use Rattle.quick_cache_model.specs.declared.queue.Queue.{Queue}
use Rattle.quick_cache_model.specs.CacheState.{Item}
use Rattle.quick_cache_model.specs.Hooks.{RunsHooks, evicted}
use Rattle.quick_cache_model.specs.Writes.{TakesOutItem, was_absent}
use Rattle.quick_cache_store.specs.Lists.{Finds, Lists}
use Rattle.quick_cache_policy.specs.Contents.{IsSound, state_of}
use Rattle.quick_cache_policy.specs.Writing.{none, one}
use Rattle.quick_cache_policy.proofs.FindLemmas.{AreHashed-under}
use Rattle.quick_cache_policy.proofs.AdmissionLemmas.{FindsItem-leaves, FindsItem-item, FindsItem-loading, FindsItem-ghost}
use Rattle.quick_cache_policy.proofs.AdmissionLemmas.{Finds-no_item, LeavesItem-takes, LeavesItem-sound}
use Rattle.std.specs.List.{Contains}
use Rattle.quick_cache_policy.specs.Places.{places_of}
use Rattle.quick_cache_policy.proofs.WrittenPlaces.{without-places}
use Rattle.quick_cache_policy.proofs.contents.Contents.take_out_item.Goals as goal

-- where no item was found, no hook is told
pub returns-in_default : goal.returns-in_default
returns-in_default g c =
    let equal = g.K.PartialEq.eq in
    let ticket = g.P.SharedPlaceholder.ticket_of in
    let under = AreHashed-under (equal c.args.key.now) c.args.hash c.args.self.now.lists
    (g.M.Policy.hashed c.args.terms.now)
    (λ k same. sym (c.requires.hash_is ∙ g.met.M.Policy.same_hash c.args.terms.now c.args.key.now k same))
    c.requires.sound.hashed in
    record {
      takes = record {
        calls = [];
        holds = (
          was_absent (Finds-no_item ticket equal c.args.key.now c.args.hash c.args.self.now
              c.requires.sound.valid under c.args.found c.requires.found c.in_default.not-Item),
          none,
        );
        runs = refl;
      };
      stays = record {
        sound = c.requires.sound;
        places = λ place there. there;
        room = omega arith;
        same = refl;
      };
    }

pub take-slot-requires : goal.take-slot-requires
take-slot-requires g c =
    let finds = subst (Finds (g.K.PartialEq.eq c.args.key.now) c.args.hash
    c.args.self.now.lists) c.in-Item.is c.requires.found in
    inl (
      record { token = number c.in-Item.token; hash = c.args.hash; item = finds.item },
      finds.stands,
      refl,
    )

pub unreachable-requires : goal.unreachable-requires
unreachable-requires g c =
    let finds = subst (Finds (g.K.PartialEq.eq c.args.key.now) c.args.hash
    c.args.self.now.lists) c.in-Item.is c.requires.found in
    FindsItem-loading g.P.SharedPlaceholder.ticket_of (g.K.PartialEq.eq c.args.key.now) c.args.hash
    c.args.self.now c.facts.ensures.apart (number c.in-Item.token) finds c.take-slot.result.hash
    c.take-slot.result.entry c.in-Loading.field-0 c.take-slot.ensures.taken c.in-Loading.is

pub unreachable-requires-in-Ghost : goal.unreachable-requires-in-Ghost
unreachable-requires-in-Ghost g c =
    let finds = subst (Finds (g.K.PartialEq.eq c.args.key.now) c.args.hash
    c.args.self.now.lists) c.in-Item.is c.requires.found in
    FindsItem-ghost g.P.SharedPlaceholder.ticket_of (g.K.PartialEq.eq c.args.key.now) c.args.hash
    c.args.self.now c.facts.ensures.apart (number c.in-Item.token) finds c.take-slot.result.hash
    c.take-slot.result.entry c.take-slot.ensures.taken c.in-Ghost.is

-- the item that was found is the one that is told
pub returns-clause-takes : goal.returns-clause-takes
returns-clause-takes g c =
    let equal = g.K.PartialEq.eq in
    let ticket = g.P.SharedPlaceholder.ticket_of in
    let t = number c.in-Item.token in
    let old = c.args.self.now in
    let finds = subst (Finds (equal c.args.key.now) c.args.hash old.lists) c.in-Item.is
    c.requires.found in
    let item = finds.item in
    let is = FindsItem-item ticket (equal c.args.key.now) c.args.hash old c.facts.ensures.apart t
    finds c.take-slot.result.hash c.take-slot.result.entry c.in-Item-entry.item
    c.take-slot.ensures.taken c.in-Item-entry.is in
    let leaves = FindsItem-leaves ticket (equal c.args.key.now) c.args.hash old
    c.facts.ensures.apart t finds in
    let takes = LeavesItem-takes ticket equal c.args.key.now c.args.hash old c.requires.sound t item
    leaves in
    let now = c.in-Item-entry.item-is ∙ is in
    let queue = c.queue-queue.ensures
    ∙ ap (λ (x : Item g.row.K.Denot g.row.V.Denot). x.queue) now in
    let pair = c.into_pair-old_key.ensures
    ∙ ap (λ (x : Item g.row.K.Denot g.row.V.Denot). (x.key, x.value)) now in
    let hooks = g.M.Policy.hooks c.args.terms.now in
    let told : RunsHooks hooks (evicted item.queue item.key item.value ∷ []) c.args.state.now
    c.report.new.state =
    subst (λ (b : Queue × (g.row.K.Denot × g.row.V.Denot)). RunsHooks hooks
    (evicted b.0 b.1.0 b.1.1 ∷ []) c.args.state.now c.report.new.state)
    (λ j. (queue j, pair j)) c.report.ensures in
    record {
      calls = evicted item.queue item.key item.value ∷ [];
      holds = (
        subst (λ lists. TakesOutItem (equal c.args.key.now) (state_of ticket old)
            (evicted item.queue item.key item.value ∷ [])
            (state_of ticket (record old { lists = lists })))
            (sym c.take-slot.ensures.rest) takes,
        one item.queue item.key item.value,
      );
      runs = told;
    }

pub returns-clause-stays : goal.returns-clause-stays
returns-clause-stays g c =
    let equal = g.K.PartialEq.eq in
    let ticket = g.P.SharedPlaceholder.ticket_of in
    let t = number c.in-Item.token in
    let old = c.args.self.now in
    let finds = subst (Finds (equal c.args.key.now) c.args.hash old.lists) c.in-Item.is
    c.requires.found in
    record {
      sound = subst (λ lists. IsSound ticket equal (g.M.Policy.hashed c.args.terms.now)
          (record old { lists = lists })) (sym c.take-slot.ensures.rest)
          (LeavesItem-sound ticket equal c.args.key.now c.args.hash old c.requires.sound t
          finds.item
          (FindsItem-leaves ticket (equal c.args.key.now) c.args.hash old c.facts.ensures.apart t
          finds));
      places = λ place there. without-places (number c.in-Item.token) c.args.self.now.lists
          place
          (subst (λ l. Contains (places_of l) place) c.take-slot.ensures.rest there);
      room = omega (arith, ap (λ (l : Lists _ _ _). l.room) c.take-slot.ensures.rest);
      same = search rules;
    }
