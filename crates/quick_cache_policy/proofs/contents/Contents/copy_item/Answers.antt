use Rattle.std.proofs.Common.{◌≡◌, Some, refl, sym, ap, subst, ◌∙◌}
use Rattle.std.specs.Int.NonZero.{non_zero_u32_get as number}
use Rattle.quick_cache_model.specs.CacheState.{UpToOrder}
use Rattle.quick_cache_model.specs.Lookups.{LooksUp, Sees}
use Rattle.quick_cache_store.specs.Lists.{HeldItem}
use Rattle.quick_cache_store.specs.Views.{items_of}
use Rattle.quick_cache_store.proofs.lists.StandingLemmas.{found-same}
use Rattle.quick_cache_policy.specs.Contents.{state_of}
use Rattle.quick_cache_policy.proofs.FindLemmas.{IsItemAt-stands}
use Rattle.quick_cache_policy.proofs.contents.Contents.copy_item.Goals as goal

-- the value could not be cloned
pub returns-in_default-clause-copies : goal.returns-in_default-clause-copies
returns-in_default-clause-copies g c =
    let found = c.requires.found in
    let place = found.stands.place in
    let before = found.stands.stands.before in
    let after = found.stands.stands.after in
    let held : HeldItem g.row.K.Denot g.row.V.Denot =
    record { token = number c.args.token; hash = c.args.hash; item = found.item } in
    record {
      value = found.item.value;
      seen = Sees.is_there place (items_of before) found.item (items_of after)
          (IsItemAt-stands g.P.SharedPlaceholder.ticket_of
          (g.Q.Equivalent.equivalent c.args.query.now) c.args.hash c.args.self.now place before held
          after found.stands.stands.split found.passes);
      memory = refl;
      unchanged = refl;
    }

-- the value that was cloned is that of the item that was looked up
pub returns-clause-copies : goal.returns-clause-copies
returns-clause-copies g c =
    let ticket_of = g.P.SharedPlaceholder.ticket_of in
    let contents = c.args.self.now in
    let looks = c.count_hit.ensures.looks_up in
    let t = number c.args.token in
    let same : c.value.result.now ≡ looks.item.value =
    c.value.ensures ∙ ap (λ (h : HeldItem g.row.K.Denot g.row.V.Denot). h.item.value)
    (found-same contents.lists c.facts.ensures.apart t
    (record { token = t; hash = looks.stood.0; item = looks.item })
    (record { token = t; hash = c.item.ensures.0; item = c.item.result }) looks.stood.1
    c.item.ensures.1 refl refl) in
    record {
      value = c.value.result.now;
      looks = subst (λ v. UpToOrder (LooksUp (g.Q.Equivalent.equivalent c.args.query.now)
          (state_of ticket_of contents) (λ item. item.value) (Some v))
          (state_of ticket_of c.count_hit.new.self)) (sym same) looks.value;
      cloned = c.in-Ok.ensures.cases;
    }
