use Rattle.std.proofs.Common.{◌≡◌, ap, refl, sym, subst, ◌∙◌, arith}
use Rattle.std.specs.Int.NonZero.{non_zero_u32_get as number}
use Rattle.quick_cache_model.specs.Touches.{raised_by, counted_up}
use Rattle.quick_cache_store.specs.Lists.{HasItem, HasItemToken, IsItemOf, with_change, with_counts}
use Rattle.quick_cache_policy.proofs.ItemLemmas.{with_change-own_counts, with_touches-some}
use Rattle.quick_cache_policy.proofs.contents.Contents.take_touches.Goals as goal

-- no touches leave each item as it is
pub returns-then-count-eq0 : goal.returns-then-count-eq0
returns-then-count-eq0 g c =
    let there = c.requires in
    let lists = c.args.self.now.lists in
    let is : IsItemOf lists (number c.args.token) there.0.item = (
      there.0.hash,
      subst (λ t. HasItem lists (record
          { token = t; hash = there.0.hash; item = there.0.item })) there.2 there.1,
    ) in
    record {
      item = there.0.item;
      touched = there.0.item;
      is_of = is;
      takes = (
        0,
        subst (λ n. g.P.Touch.Touches.may_count n) c.if-count-eq0.true
            c.take_touch-count.ensures.counted,
        refl,
      );
      same = ap (λ l. record c.args.self.now { lists = l }) (c.take_touch-count.ensures.same
          ∙ sym (with_change-own_counts lists c.facts.ensures.apart (number c.args.token)
          there.0.item is));
    }

pub item-item-requires : goal.item-item-requires
item-item-requires g c =
    subst (λ l. HasItemToken l (number c.args.token)) (sym c.take_touch-count.ensures.same)
    c.requires

pub returns : goal.returns
returns g c =
    let item = c.item-item.result in
    let n = c.take_touch-count.result in
    let cut = c.args.self.now.mark_cut in
    let mark : c.min-mark.result ≡ raised_by cut n item.mark =
    omega (
      arith,
      c.min-mark.ensures,
      c.saturating_add.ensures,
      c.from.ensures,
      c.from-2.ensures,
      c.mark.ensures,
    ) in
    let reads : c.saturating_add-reads.result ≡ counted_up n item.reads =
    omega (arith, c.saturating_add-reads.ensures, c.reads.ensures) in
    record {
      item = item;
      touched = record item { mark = raised_by cut n item.mark; reads = counted_up n item.reads };
      is_of = subst (λ l. IsItemOf l (number c.args.token) item) c.take_touch-count.ensures.same
          c.item-item.ensures;
      takes = (
        n,
        c.take_touch-count.ensures.counted,
        sym (with_touches-some cut n item c.if-count-eq0.false),
      );
      same = λ i. record c.args.self.now {
        lists = (c.set_counts.ensures
            ∙ ap (λ l. with_change (number c.args.token)
            (with_counts c.min-mark.result c.saturating_add-reads.result) l)
            c.take_touch-count.ensures.same
            ∙ ap (λ m. with_change (number c.args.token)
            (with_counts m c.saturating_add-reads.result) c.args.self.now.lists) mark
            ∙ ap (λ m. with_change (number c.args.token)
            (with_counts (raised_by cut n item.mark) m) c.args.self.now.lists) reads) i;
      };
    }
