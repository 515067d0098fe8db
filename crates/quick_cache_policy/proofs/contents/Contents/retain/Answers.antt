use Rattle.std.proofs.Common.{arith}
use Rattle.std.proofs.lemmas.Fn.{says}
use Rattle.quick_cache_model.proofs.OrderLaws.{UpToOrder-exact}
use Rattle.std.specs.Int.NonZero.{non_zero_u32_get as number}
use Rattle.quick_cache_store.specs.Lists.{HeldItem, number_or_zero}
use Rattle.quick_cache_store.specs.Views.{items_of}
use Rattle.quick_cache_policy.specs.Predicates.{Answers}
use Rattle.quick_cache_policy.proofs.RetainLemmas.{IsSifting-start, IsSifting-stay, IsSifting-go, IsSifting-end}
use Rattle.quick_cache_policy.proofs.AskLemmas.{sifting-stood}
use Rattle.quick_cache_policy.proofs.EnterLemmas.{split-state}
use Rattle.quick_cache_policy.proofs.KeptPlaces.{sifting-places}
use Rattle.quick_cache_policy.proofs.contents.Contents.retain.Goals as goal

pub loop-token-init : goal.loop-token-init
loop-token-init g c =
    (IsSifting-start (Answers g.F.Fn c.args.keep) c.args.self.now c.numbered.ensures, λ hashed sound. sound)

pub item-requires : goal.item-requires
item-requires g c = (c.first_above.ensures.found c.in-Some.token c.in-Some.is).1

-- it is asked of an item that was there
pub keep-requires : goal.keep-requires
keep-requires g c =
    let old = c.args.self.now in
    let held : HeldItem g.row.K.Denot g.row.V.Denot =
    record { token = number c.in-Some.token; hash = c.item.ensures.0; item = c.item.result } in
    let has = sifting-stood (Answers g.F.Fn c.args.keep) (number_or_zero c.loop-token.at) old
    c.loop-token.self c.loop-token.invariant.0 held c.item.ensures.1 in
    c.requires.callable has.place (items_of has.stands.before) c.item.result
    (items_of has.stands.after)
    (split-state g.P.SharedPlaceholder.ticket_of old has.place has.stands.before held
    has.stands.after old.lists has.stands.split) c.pair.result.0 c.pair.result.1
    c.pair.ensures.key c.pair.ensures.value

-- each token is above the last one
pub loop-token-smaller-then-not-keep : goal.loop-token-smaller-then-not-keep
loop-token-smaller-then-not-keep g c =
    let above = (c.first_above.ensures.found c.in-Some.token c.in-Some.is).0 in
    omega (arith, above, c.in-Some.token.ok)

pub loop-token-preserved-then-not-keep : goal.loop-token-preserved-then-not-keep
loop-token-preserved-then-not-keep g c =
    let found = c.first_above.ensures.found c.in-Some.token c.in-Some.is in
    let refused : Answers g.F.Fn c.args.keep c.item.result.key c.item.result.value _ =
    record {
      shown_key = c.pair.result.0;
      shown_value = c.pair.result.1;
      shows = (c.pair.ensures.key, c.pair.ensures.value);
      says = says g.F.Fn c.keep.ensures c.if-not-keep.true;
    } in (
      IsSifting-go (Answers g.F.Fn c.args.keep) c.args.self.now c.loop-token.self
          c.facts.ensures.apart (number_or_zero c.loop-token.at) c.in-Some.token
          c.item.result c.loop-token.invariant.0 c.item.ensures found.0
          (λ other. c.first_above.ensures.least c.in-Some.token other c.in-Some.is) refused
          c.take_item.new.self c.take_item.ensures.takes.rest,
      λ hashed sound.
          c.take_item.ensures.sound hashed (c.loop-token.invariant.1 hashed sound),
    )

pub loop-token-smaller : goal.loop-token-smaller
loop-token-smaller g c =
    let above = (c.first_above.ensures.found c.in-Some.token c.in-Some.is).0 in
    omega (arith, above, c.in-Some.token.ok)

pub loop-token-preserved : goal.loop-token-preserved
loop-token-preserved g c =
    let found = c.first_above.ensures.found c.in-Some.token c.in-Some.is in
    let said : Answers g.F.Fn c.args.keep c.item.result.key c.item.result.value _ =
    record {
      shown_key = c.pair.result.0;
      shown_value = c.pair.result.1;
      shows = (c.pair.ensures.key, c.pair.ensures.value);
      says = says g.F.Fn c.keep.ensures c.if-not-keep.false;
    } in (
      IsSifting-stay (Answers g.F.Fn c.args.keep) c.args.self.now c.loop-token.self
          c.facts.ensures.apart (number_or_zero c.loop-token.at) c.in-Some.token
          c.item.result c.loop-token.invariant.0 c.item.ensures found.0
          (λ other. c.first_above.ensures.least c.in-Some.token other c.in-Some.is) said,
      c.loop-token.invariant.1,
    )

pub returns-clause-retains : goal.returns-clause-retains
returns-clause-retains g c =
    UpToOrder-exact _ _ (IsSifting-end (Answers g.F.Fn c.args.keep) c.args.self.now
    g.P.SharedPlaceholder.ticket_of c.loop-token.self (number_or_zero c.loop-token.at)
    c.loop-token.invariant.0 (c.first_above.ensures.none c.in_default.is))

pub returns-clause-sound : goal.returns-clause-sound
returns-clause-sound g c = c.loop-token.invariant.1

pub returns-clause-room : goal.returns-clause-room
returns-clause-room g c = c.loop-token.invariant.0.room

pub returns-clause-same : goal.returns-clause-same
returns-clause-same g c = c.loop-token.invariant.0.same

-- what stays was there
pub returns-clause-places : goal.returns-clause-places
returns-clause-places g c =
    sifting-places (Answers g.F.Fn c.args.keep) (number_or_zero c.loop-token.at) c.args.self.now
    c.loop-token.self c.loop-token.invariant.0
