use Rattle.std.specs.Fn.{FnReturnsAt}
use Rattle.std.proofs.Common.{not, Some, sym, ap, ◌∙◌, subst, arith}
use Rattle.quick_cache_model.specs.CacheState.{item_count}
use Rattle.quick_cache_policy.proofs.FindLemmas.{none-found}
use Rattle.quick_cache_shard.specs.Loading.{HasNoneWanted}
use Rattle.quick_cache_shard.specs.Shard.{Shard}
use Rattle.quick_cache_locked.specs.Invalidates.{GivesUpAsked, is_between}
use Rattle.quick_cache_locked.proofs.AskedLemmas.{SaysNo, all-asked, asked-turn, none-asked, retains-count, turn-counts}
use Rattle.quick_cache_locked.proofs.InvalidateLemmas.{Invalidates-begins, Invalidates-turn, not-twice}
use Rattle.quick_cache_locked.proofs.locked.LockedShard.invalidate_if.Goals as goal

-- the items were asked
pub loop-shared-init : goal.loop-shared-init
loop-shared-init g c = record {
  places = c.retain.ensures.places;
  asks = Invalidates-begins (FnReturnsAt g.F.Fn c.args.test) _
      (λ key value stays says.
      let said = says.says.met in
      subst (λ answer. FnReturnsAt g.F.Fn c.args.test key answer)
      (sym (ap not said.2 ∙ not-twice said.0))
      (subst (λ shown. FnReturnsAt g.F.Fn c.args.test shown said.0) says.shows.0 said.1))
      c.args.self.now.state c.retain.new.self.state c.retain.ensures.asks;
  asked = none-asked (SaysNo (FnReturnsAt g.F.Fn c.args.test)) c.retain.new.self.state.loading;
  number = omega (
    arith,
    retains-count _ c.args.self.now.state c.retain.new.self.state c.retain.ensures.asks,
    c.len-before.ensures.count,
    ap (λ (s : Shard _ _ _ _ _). item_count s.state) c.self.view_is,
    c.len.ensures.count,
    ap (λ (s : Shard _ _ _ _ _). item_count s.state) c.self-2.view_is,
    c.saturating_sub-gone.ensures,
  );
}

-- one ticket more was asked
pub loop-shared-preserved : goal.loop-shared-preserved
loop-shared-preserved g c =
    let answers = FnReturnsAt g.F.Fn c.args.test in
    let ticket = c.ticket.result in
    let old = c.loop-shared.self.state in
    let new = c.give_up_if.new.self.state in
    let valid = c.give_up_if.ensures.sound.valid in
    let gives = subst (λ t. GivesUpAsked answers t old c.give_up_if.result new)
    (sym c.ticket.ensures) c.give_up_if.ensures.gives_up in
    let none_between = subst (λ t. HasNoneWanted (is_between c.loop-shared.above (Some t)) old)
    (sym c.ticket.ensures) c.in-Some.ensures.none_between in
    let so_far = c.loop-shared.invariant in
    record {
      places = λ place there. so_far.places place (c.give_up_if.ensures.places place there);
      asks = Invalidates-turn answers g.K.PartialEq.eq ticket _ c.args.self.now.state old new valid
          gives so_far.asks;
      asked = asked-turn answers ticket g.K.PartialEq.eq c.loop-shared.above _ old new valid
          none_between so_far.asked gives;
      number = omega (
        arith,
        turn-counts answers ticket _ old new gives,
        c.from-gone.ensures,
        so_far.number,
      );
    }

-- the same, where the placeholder was let go
pub loop-shared-preserved-in-Some : goal.loop-shared-preserved-in-Some
loop-shared-preserved-in-Some g c =
    let answers = FnReturnsAt g.F.Fn c.args.test in
    let ticket = c.ticket.result in
    let old = c.loop-shared.self.state in
    let new = c.give_up_if.new.self.state in
    let valid = c.give_up_if.ensures.sound.valid in
    let gives = subst (λ t. GivesUpAsked answers t old c.give_up_if.result new)
    (sym c.ticket.ensures) c.give_up_if.ensures.gives_up in
    let none_between = subst (λ t. HasNoneWanted (is_between c.loop-shared.above (Some t)) old)
    (sym c.ticket.ensures) c.in-Some.ensures.none_between in
    let so_far = c.loop-shared.invariant in
    record {
      places = λ place there. so_far.places place (c.give_up_if.ensures.places place there);
      asks = Invalidates-turn answers g.K.PartialEq.eq ticket _ c.args.self.now.state old new valid
          gives so_far.asks;
      asked = asked-turn answers ticket g.K.PartialEq.eq c.loop-shared.above _ old new valid
          none_between so_far.asked gives;
      number = omega (
        arith,
        turn-counts answers ticket _ old new gives,
        c.from-gone.ensures,
        so_far.number,
      );
    }

-- no ticket is left, so each was asked
pub returns-clause-asked : goal.returns-clause-asked
returns-clause-asked g c =
    all-asked (SaysNo (FnReturnsAt g.F.Fn c.args.test)) c.loop-shared.above
    c.loop-shared.self.state.loading
    (none-found _ _ c.in_default.not-Some c.next_load.ensures) c.loop-shared.invariant.asked
