use Rattle.std.proofs.Common.{◌∙◌, ap, sym, arith, [], ap₂}
use Rattle.quick_cache_model.specs.CacheState.{Item, InCold}
use Rattle.quick_cache_policy.specs.declared.evicting.cold.Search.{Search}
use Rattle.quick_cache_policy.proofs.FirstLemmas.{first-touched_same, first-touched_places, first-touched_sound, first-touched_item}
use Rattle.quick_cache_policy.proofs.FirstLemmas.{first-touched_there, first-looked}
use Rattle.quick_cache_policy.proofs.contents.Contents.look_cold.Goals as goal

pub take_touches-requires : goal.take_touches-requires
take_touches-requires g c =
    let first = c.in-Some.ensures in (
      first.0,
      record {
        place = InCold;
        stands = record { before = []; after = first.1; split = first.2 };
      },
      first.3,
    )

pub item-item-requires : goal.item-item-requires
item-item-requires g c =
    first-touched_there c.facts.ensures.apart c.in-Some.ensures c.take_touches.ensures

pub returns-then-mark-gt0-clause-looks : goal.returns-then-mark-gt0-clause-looks
returns-then-mark-gt0-clause-looks g c =
    let is = first-touched_item c.facts.ensures.apart c.in-Some.ensures c.take_touches.ensures
    c.facts-2.ensures.apart c.item-item.result c.item-item.ensures in
    first-looked c.facts.ensures.apart c.in-Some.ensures c.take_touches.ensures
    (g.M.Policy.steady c.args.terms.now) (g.M.Policy.pinned c.args.terms.now) Search.Marked
    (omega (arith, c.if-mark-gt0.true, c.mark.ensures, ap (λ (i : Item _ _). i.mark) is))

pub returns-then-mark-gt0-clause-sound : goal.returns-then-mark-gt0-clause-sound
returns-then-mark-gt0-clause-sound g c =
    first-touched_sound c.facts.ensures.apart c.in-Some.ensures c.take_touches.ensures
    g.P.SharedPlaceholder.ticket_of g.K.PartialEq.eq (g.M.Policy.hashed c.args.terms.now)
    c.requires.sound

pub returns-then-mark-gt0-clause-same : goal.returns-then-mark-gt0-clause-same
returns-then-mark-gt0-clause-same g c =
    first-touched_same c.facts.ensures.apart c.in-Some.ensures c.take_touches.ensures

pub returns-then-not-is_pinned-clause-looks : goal.returns-then-not-is_pinned-clause-looks
returns-then-not-is_pinned-clause-looks g c =
    let is = first-touched_item c.facts.ensures.apart c.in-Some.ensures c.take_touches.ensures
    c.facts-2.ensures.apart c.item-item.result c.item-item.ensures in
    first-looked c.facts.ensures.apart c.in-Some.ensures c.take_touches.ensures
    (g.M.Policy.steady c.args.terms.now) (g.M.Policy.pinned c.args.terms.now) Search.Victim (
      omega (arith, c.if-mark-gt0.false, c.mark.ensures, ap (λ (i : Item _ _). i.mark) is),
      λ steady. ap (λ (i : Item _ _). g.M.Policy.pinned c.args.terms.now i.key i.value) (sym is)
          ∙ ap₂ (g.M.Policy.pinned c.args.terms.now) (sym c.key.ensures) (sym c.value.ensures)
          ∙ sym (c.is_pinned.ensures steady) ∙ c.if-not-is_pinned.true,
    )

pub returns-then-not-is_pinned-clause-sound : goal.returns-then-not-is_pinned-clause-sound
returns-then-not-is_pinned-clause-sound g c =
    first-touched_sound c.facts.ensures.apart c.in-Some.ensures c.take_touches.ensures
    g.P.SharedPlaceholder.ticket_of g.K.PartialEq.eq (g.M.Policy.hashed c.args.terms.now)
    c.requires.sound

pub returns-then-not-is_pinned-clause-same : goal.returns-then-not-is_pinned-clause-same
returns-then-not-is_pinned-clause-same g c =
    first-touched_same c.facts.ensures.apart c.in-Some.ensures c.take_touches.ensures

pub returns-clause-looks : goal.returns-clause-looks
returns-clause-looks g c =
    let is = first-touched_item c.facts.ensures.apart c.in-Some.ensures c.take_touches.ensures
    c.facts-2.ensures.apart c.item-item.result c.item-item.ensures in
    first-looked c.facts.ensures.apart c.in-Some.ensures c.take_touches.ensures
    (g.M.Policy.steady c.args.terms.now) (g.M.Policy.pinned c.args.terms.now) Search.AllPassed
    (record {
      unmarked =
          omega
          (arith, c.if-mark-gt0.false, c.mark.ensures, ap (λ (i : Item _ _). i.mark) is);
      pinned_there = λ steady.
          ap (λ (i : Item _ _). g.M.Policy.pinned c.args.terms.now i.key i.value) (sym is)
          ∙ ap₂ (g.M.Policy.pinned c.args.terms.now) (sym c.key.ensures) (sym c.value.ensures)
          ∙ sym (c.is_pinned.ensures steady) ∙ c.if-not-is_pinned.false;
    })

pub returns-clause-sound : goal.returns-clause-sound
returns-clause-sound g c =
    first-touched_sound c.facts.ensures.apart c.in-Some.ensures c.take_touches.ensures
    g.P.SharedPlaceholder.ticket_of g.K.PartialEq.eq (g.M.Policy.hashed c.args.terms.now)
    c.requires.sound

pub returns-clause-same : goal.returns-clause-same
returns-clause-same g c =
    first-touched_same c.facts.ensures.apart c.in-Some.ensures c.take_touches.ensures

pub returns-then-mark-gt0-clause-places : goal.returns-then-mark-gt0-clause-places
returns-then-mark-gt0-clause-places g c =
    first-touched_places c.facts.ensures.apart c.in-Some.ensures c.take_touches.ensures

pub returns-then-not-is_pinned-clause-places : goal.returns-then-not-is_pinned-clause-places
returns-then-not-is_pinned-clause-places g c =
    first-touched_places c.facts.ensures.apart c.in-Some.ensures c.take_touches.ensures

pub returns-clause-places : goal.returns-clause-places
returns-clause-places g c =
    first-touched_places c.facts.ensures.apart c.in-Some.ensures c.take_touches.ensures
