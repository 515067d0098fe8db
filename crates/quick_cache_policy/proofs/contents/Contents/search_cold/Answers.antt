use Rattle.std.proofs.Common.{◌+◌, length, ap, sym, subst, ◌∙◌, arith, refl}
use Rattle.quick_cache_store.specs.Lists.{Lists, turned}
use Rattle.quick_cache_store.specs.Views.{items_of}
use Rattle.quick_cache_policy.specs.declared.contents.Contents.{Contents}
use Rattle.quick_cache_policy.specs.Advances.{LooksAt}
use Rattle.quick_cache_policy.specs.Contents.{IsSound}
use Rattle.quick_cache_policy.specs.declared.evicting.cold.Search.{Search}
use Rattle.quick_cache_policy.proofs.ColdLemmas.{HasPassed, HasPassed-none, HasPassed-more, HasPassed-found, LooksAt-length}
use Rattle.quick_cache_policy.proofs.ColdSoundLemmas.{IsSound-cold_turned, items_of-turned, items_of-length, length-turned}
use Rattle.std.specs.List.{Contains}
use Rattle.quick_cache_policy.specs.Places.{places_in}
use Rattle.quick_cache_policy.proofs.PlaceLemmas.{LosesOnly-ring_turned}
use Rattle.quick_cache_policy.proofs.contents.Contents.search_cold.Goals as goal

pub loop-init : goal.loop-init
loop-init g c = record {
  passed = HasPassed-none (g.M.Policy.steady c.args.terms.now) (g.M.Policy.pinned c.args.terms.now)
      c.args.self.now.mark_cut g.P.Touch.Touches.may_count (items_of c.args.self.now.lists.cold);
  sound = c.requires.sound;
  count = refl;
  places = λ place there. there;
  same = refl;
}

pub returns-in_default : goal.returns-in_default
returns-in_default g c =
    let i = c.loop.invariant in
    let cold = c.loop.self.lists.cold in
    let looks = c.look_cold.ensures in
    record {
      searches = HasPassed-found (g.M.Policy.steady c.args.terms.now)
          (g.M.Policy.pinned c.args.terms.now) c.args.self.now.mark_cut
          g.P.Touch.Touches.may_count (items_of c.args.self.now.lists.cold) c.loop.counter
          (items_of cold) i.passed c.look_cold.result (items_of c.look_cold.new.self.lists.cold)
          c.in_default.not-AllPassed g.P.Touch.Touches.none_counted
          (omega (
            arith,
            c.loop-test.true,
            c.count-end.ensures,
            items_of-length c.args.self.now.lists.cold,
          ))
          (subst (λ n. LooksAt (g.M.Policy.steady c.args.terms.now)
          (g.M.Policy.pinned c.args.terms.now) n g.P.Touch.Touches.may_count (items_of cold)
          c.look_cold.result (items_of c.look_cold.new.self.lists.cold))
          (ap (λ (r : Contents _ _ _ _ _ _). r.mark_cut) i.same) looks.looks);
      sound = looks.sound;
      count = omega (
        arith,
        i.count,
        LooksAt-length looks.looks,
        items_of-length cold,
        items_of-length c.look_cold.new.self.lists.cold,
      );
      places = λ place there. i.places place (looks.places place there);
      same = looks.same
          ∙ ap (λ (r : Contents _ _ _ _ _ _). record r
          { lists = record r.lists { cold = c.look_cold.new.self.lists.cold } }) i.same;
    }

pub loop-preserved : goal.loop-preserved
loop-preserved g c =
    let i = c.loop.invariant in
    let cold = c.loop.self.lists.cold in
    let looks = c.in-AllPassed.ensures in
    let seen = c.look_cold.new.self in
    record {
      passed = subst (λ items. HasPassed (g.M.Policy.steady c.args.terms.now)
          (g.M.Policy.pinned c.args.terms.now) c.args.self.now.mark_cut
          g.P.Touch.Touches.may_count (items_of c.args.self.now.lists.cold) (c.loop.counter + 1)
          items)
          (sym (ap (λ (l : Lists _ _ _). items_of l.cold) c.turn.ensures
          ∙ items_of-turned seen.lists.cold))
          (HasPassed-more (g.M.Policy.steady c.args.terms.now)
          (g.M.Policy.pinned c.args.terms.now) c.args.self.now.mark_cut
          g.P.Touch.Touches.may_count (items_of c.args.self.now.lists.cold) c.loop.counter
          (items_of cold) i.passed (items_of seen.lists.cold)
          (omega (
            arith,
            c.loop-test.true,
            c.count-end.ensures,
            items_of-length c.args.self.now.lists.cold,
          ))
          (subst (λ n. LooksAt (g.M.Policy.steady c.args.terms.now)
          (g.M.Policy.pinned c.args.terms.now) n g.P.Touch.Touches.may_count (items_of cold)
          Search.AllPassed (items_of seen.lists.cold))
          (ap (λ (r : Contents _ _ _ _ _ _). r.mark_cut) i.same) looks.looks));
      sound = subst (λ (l : Lists _ _ _). IsSound g.P.SharedPlaceholder.ticket_of g.K.PartialEq.eq
          (g.M.Policy.hashed c.args.terms.now) (record seen { lists = l })) (sym c.turn.ensures)
          (IsSound-cold_turned g.P.SharedPlaceholder.ticket_of g.K.PartialEq.eq
          (g.M.Policy.hashed c.args.terms.now) seen looks.sound);
      count = omega (
        arith,
        i.count,
        LooksAt-length looks.looks,
        items_of-length cold,
        items_of-length seen.lists.cold,
        length-turned seen.lists.cold,
        ap (λ (l : Lists _ _ _). length l.cold) c.turn.ensures,
      );
      places = λ place there. i.places place (looks.places place
          (LosesOnly-ring_turned seen.lists.cold place
          (subst (λ (l : Lists _ _ _). Contains (places_in l.cold) place) c.turn.ensures there)));
      same = ap (λ (l : Lists _ _ _). record seen { lists = l }) c.turn.ensures
          ∙ ap (λ (r : Contents _ _ _ _ _ _). record r
          { lists = record r.lists { cold = turned seen.lists.cold } })
          (looks.same ∙ ap (λ (r : Contents _ _ _ _ _ _). record r
          { lists = record r.lists { cold = seen.lists.cold } }) i.same)
          ∙ ap (λ xs. record c.args.self.now { lists = record c.args.self.now.lists { cold = xs } })
          (sym (ap (λ (l : Lists _ _ _). l.cold) c.turn.ensures));
    }
