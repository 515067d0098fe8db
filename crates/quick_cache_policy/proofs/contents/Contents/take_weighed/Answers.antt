use Rattle.std.proofs.Common.{◌≡◌, ◌==◌, ℕ, Bool, refl, ap, subst, ◌∙◌}
use Rattle.std.specs.Int.NonZero.{non_zero_u32_get as number}
use Rattle.quick_cache_model.specs.CacheState.{Item}
use Rattle.quick_cache_model.specs.Removal.{pair_of}
use Rattle.quick_cache_store.specs.Lists.{HeldItem, HasItem, IsEntry, without_entry}
use Rattle.quick_cache_store.proofs.lists.StandingLemmas.{found-same, not-loading, not-ghost}
use Rattle.quick_cache_policy.proofs.contents.Contents.take_weighed.Goals as goal

-- what has the token of an item is an item
pub unreachable-requires : goal.unreachable-requires
unreachable-requires g c =
    not-loading c.args.self.now.lists c.facts.ensures.apart (number c.args.token)
    c.take-slot.result.hash c.take-slot.result.entry c.take-slot.ensures.taken _
    c.requires.1 c.requires.2 c.in-Loading.field-0 c.in-Loading.is

pub unreachable-requires-in-Ghost : goal.unreachable-requires-in-Ghost
unreachable-requires-in-Ghost g c =
    not-ghost c.args.self.now.lists c.facts.ensures.apart (number c.args.token)
    c.take-slot.result.hash c.take-slot.result.entry c.take-slot.ensures.taken _
    c.requires.1 c.requires.2 c.in-Ghost.is

-- the item that went is the one that was weighed
pub returns : goal.returns
returns g c =
    let contents = c.args.self.now in
    let t = number c.args.token in
    let weight_of = g.M.Policy.weight_of c.args.terms.now in
    let seen = c.item-item.ensures in
    let has : HasItem contents.lists
    (record { token = t; hash = c.take-slot.result.hash; item = c.in-Item.resident }) =
    subst (λ entry. IsEntry contents.lists t c.take-slot.result.hash entry) c.in-Item.is
    c.take-slot.ensures.taken in
    let same : c.item-item.result ≡ c.in-Item.resident = ap (λ (h : HeldItem _ _). h.item)
    (found-same contents.lists c.facts.ensures.apart t
    (record { token = t; hash = c.take-slot.result.hash; item = c.in-Item.resident })
    (record { token = t; hash = seen.0; item = c.item-item.result }) has seen.1 refl refl) in
    let weight : c.weigh-weight.result ≡ weight_of c.in-Item.resident.key c.in-Item.resident.value =
    c.weigh-weight.ensures
    ∙ (λ i. weight_of (c.key.ensures i) (c.value.ensures i))
    ∙ ap (λ (item : Item g.row.K.Denot g.row.V.Denot). weight_of item.key item.value) same in
    record {
      item = c.in-Item.resident;
      stood = (c.take-slot.result.hash, has);
      pair = c.into_pair.ensures ∙ ap (λ (i : Item _ _). pair_of i) c.in-Item.resident-is;
      queue = c.queue-queue.ensures ∙ ap (λ (i : Item _ _). i.queue) same;
      rest = λ i. record contents {
        lists = (c.take-slot.ensures.rest
            ∙ ap (λ (b : Bool). without_entry b t contents.lists)
            (c.order_behind.ensures ∙ ap (λ (w : ℕ). w == 0) weight)) i;
      };
    }
