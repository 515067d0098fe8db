use Rattle.std.proofs.Common.{rules, ◌-◌, [], refl, sym, ap, ◌∙◌, arith}
use Rattle.std.specs.Int.NonZero.{non_zero_u32_get as number}
use Rattle.quick_cache_model.specs.declared.queue.Queue.{Queue}
use Rattle.quick_cache_model.specs.CacheState.{ring_place}
use Rattle.quick_cache_store.specs.Lists.{HeldItem}
use Rattle.quick_cache_store.proofs.lists.OneEntryLemmas.{first-item}
use Rattle.quick_cache_policy.proofs.PlaceLemmas.{LosesOnly-promoted}
use Rattle.quick_cache_policy.proofs.VictimLemmas.{Requeues-promotes}
use Rattle.quick_cache_policy.proofs.SoundLemmas.{FirstIsPromoted-from, IsSound-promoted, first_cold-weighs}
use Rattle.quick_cache_policy.proofs.contents.Contents.promote_first.Goals as goal

-- the first of the cold ring stands there
pub item-item-requires : goal.item-item-requires
item-item-requires g c =
    let first = c.in-Some.ensures in (
      first.0,
      record {
        place = ring_place Queue.Cold;
        stands = record { before = []; after = first.1; split = first.2 };
      },
      first.3,
    )

pub returns-clause-promotes : goal.returns-clause-promotes
returns-clause-promotes g c =
    let first = c.in-Some.ensures in
    let contents = c.args.self.now in
    let lists = contents.lists in
    let t = number c.in-Some.token in
    let seen = ap (λ (h : HeldItem _ _). h.item)
    (first-item lists c.facts.ensures.apart first.0 first.1 Queue.Cold _ first.2
    c.item-item.ensures.1
    (sym first.3)) in
    FirstIsPromoted-from g.P.SharedPlaceholder.ticket_of contents first.0 first.1 c.requeue.new.self
    first.2
    (Requeues-promotes lists c.requeue.new.self c.facts.ensures.apart first.0 first.1 t
    c.saturating_sub-mark.result c.weight-weight.result first.2 first.3
    (first_cold-weighs g.P.SharedPlaceholder.ticket_of contents first.0 first.1 g.K.PartialEq.eq
    (g.M.Policy.hashed c.args.terms.now) first.2 c.requires.sound)
    (c.weight-weight.ensures ∙ ap (λ i. i.weight) seen)
    (omega (arith, c.saturating_sub-mark.ensures, c.mark.ensures, ap (λ i. i.mark) seen))
    c.requeue.ensures)

-- it takes its token along
pub returns-clause-stays : goal.returns-clause-stays
returns-clause-stays g c =
    let first = c.in-Some.ensures in
    let contents = c.args.self.now in
    let lists = contents.lists in
    let t = number c.in-Some.token in
    let seen = ap (λ (h : HeldItem _ _). h.item)
    (first-item lists c.facts.ensures.apart first.0 first.1 Queue.Cold _ first.2
    c.item-item.ensures.1
    (sym first.3)) in
    record {
      sound = IsSound-promoted g.P.SharedPlaceholder.ticket_of contents first.0 first.1
          g.K.PartialEq.eq
          (g.M.Policy.hashed c.args.terms.now) c.requeue.new.self first.2
          (Requeues-promotes lists c.requeue.new.self c.facts.ensures.apart first.0 first.1 t
          c.saturating_sub-mark.result c.weight-weight.result first.2 first.3
          (first_cold-weighs g.P.SharedPlaceholder.ticket_of contents first.0 first.1
          g.K.PartialEq.eq
          (g.M.Policy.hashed c.args.terms.now) first.2 c.requires.sound)
          (c.weight-weight.ensures ∙ ap (λ i. i.weight) seen)
          (omega (arith, c.saturating_sub-mark.ensures, c.mark.ensures, ap (λ i. i.mark) seen))
          c.requeue.ensures)
          c.requires.sound;
      places = LosesOnly-promoted first.0
          (record first.0 {
            item = record first.0.item { mark = first.0.item.mark - 1; queue = Queue.Hot };
          })
          first.1 lists c.requeue.new.self first.2 refl
          (Requeues-promotes lists c.requeue.new.self c.facts.ensures.apart first.0 first.1 t
          c.saturating_sub-mark.result c.weight-weight.result first.2 first.3
          (first_cold-weighs g.P.SharedPlaceholder.ticket_of contents first.0 first.1
          g.K.PartialEq.eq
          (g.M.Policy.hashed c.args.terms.now) first.2 c.requires.sound)
          (c.weight-weight.ensures ∙ ap (λ i. i.weight) seen)
          (omega (arith, c.saturating_sub-mark.ensures, c.mark.ensures, ap (λ i. i.mark) seen))
          c.requeue.ensures);
      room = omega arith;
      same = search rules;
    }
